-- How many ghosts there can be: at most one for each face of each tree.
use Prim.Native.Nat.{ℕ, ◌+◌, ◌-◌, ◌≤◌, ◌<◌}
use native.Mathlib.Nat.{le_trans}
use native.Mathlib.Omega.{arith}
use mathlib.Core.Path.{◌≡◌, refl, ◌∙◌}
use mathlib.Core.Bool.{Bool, true, ◌&&◌}
use mathlib.Core.List.{List}
use lib.Dec.{eqb}
use borrow.Author.Tests.{eq-eqb}
use Rattle.encoding.specs.Below.{any_below, count_below}
use Rattle.encoding.proofs.Below.{and_fst, and_snd, any_at, any_intro}
use Rattle.offsets.specs.Table.{first_tree, tree_count}
use Rattle.offsets.proofs.Tables.{count_add}
use Rattle.records.specs.Shape.{face_count, faces_in}
use Rattle.records.specs.Record.{shape_of, neighbour_of}
use Rattle.records.proofs.Shapes.{count_faces}
use Rattle.pattern.specs.Sender.{Tables, sender, sends}
use Rattle.pattern.proofs.Counting.{count_imp}
use Rattle.pattern.proofs.Senders.{holds_true, sends_true}
use Rattle.mesh.specs.Mesh.{mesh_dimension, mesh_trees, mesh_core, mesh_sound, face_neighbour}
use Rattle.mesh.proofs.Soundness.{sound_shape, neighbour_below, neighbours_both}
use Rattle.part.specs.Ghosts.{is_ghost}
use Rattle.message.specs.Rule.{sends_beside, considers, sends_ghost}
use Rattle.message.specs.Means.{ghost_sender}
use Rattle.message.proofs.Ghosts.{one_ghost_sender}
use Rattle.area.specs.Layout.{ghost_bound}
use Rattle.area_theorems.proofs.Zones.{range_end}
use Rattle.area_theorems.proofs.Sound.{filled_by}
use Rattle.area_theorems.proofs.Counting.{count_beside_some}
use Rattle.repartition.specs.Run.{Run, Setting}
use Rattle.repartition.proofs.Canonical.{ghost_heard}

-- ---- the ghosts of a rank

-- a tree across a face has the first across one of its own
pub neighbour_beside : (mesh : List ℕ) → mesh_sound mesh ≡ true → (k f : ℕ) → k < mesh_trees mesh → f < face_count (shape_of (mesh_core mesh k))
    → any_below (face_count (shape_of (mesh_core mesh (neighbour_of (mesh_core mesh k) f)))) (λ e. eqb (neighbour_of (mesh_core mesh (neighbour_of (mesh_core mesh k) f)) e) k) ≡ true
unfolding face_neighbour
neighbour_beside mesh sound k f h a =
    let n : ℕ = neighbour_of (mesh_core mesh k) f in
    let t : face_neighbour (mesh_core mesh) k n ≡ true =
    any_intro (face_count (shape_of (mesh_core mesh k))) (λ e. eqb (neighbour_of (mesh_core mesh k) e) n) f a (eq-eqb n n refl) in
    neighbours_both mesh sound n k (neighbour_below mesh sound k h f a) h ∙ t

module _ (run : Run) (S : Setting run) where
  abbrev core : ℕ → List ℕ
  core = mesh_core run.mesh

  abbrev T : Tables run.old run.new
  T = S.tables

  -- k is across a face of tree i of the rank
  abbrev across : ℕ → ℕ → Bool
  across k i = any_below (face_count (shape_of (core (first_tree run.new run.rank + i)))) (λ f. eqb (neighbour_of (core (first_tree run.new run.rank + i)) f) k)

  -- its sender is heard
  abbrev due : (ℕ → Bool) → ℕ → Bool
  due H i = H (sender run.old (first_tree run.new run.rank + i) run.rank)

  -- the sender of a ghost sends a tree beside it
  ghost-sent : (k : ℕ) → is_ghost core run.new run.rank k ≡ true → sends_beside core run.old run.new (ghost_sender core run.old run.new run.rank k) run.rank k ≡ true
  unfolding sends_ghost considers
  ghost-sent k e =
      let p : ℕ = ghost_sender core run.old run.new run.rank k in
      let t : sends_ghost core run.old run.new p run.rank k ≡ true = one_ghost_sender core run.old run.new T run.rank k S.rank_below e p ∙ eq-eqb p p refl in
      and_fst (sends_beside core run.old run.new p run.rank k) (is_ghost core run.new run.rank k) (and_fst (considers core run.old run.new p run.rank k) _ t)

  -- a ghost heard is across a face of a tree whose sender is heard
  heard-beside : (H : ℕ → Bool) (k : ℕ) → k < mesh_trees run.mesh → ghost_heard run H k ≡ true → any_below (tree_count run.new run.rank) (λ i. due H i && across k i) ≡ true
  unfolding ghost_heard sends_beside
  heard-beside H k h e =
      let p : ℕ = ghost_sender core run.old run.new run.rank k in
      let g : is_ghost core run.new run.rank k ≡ true = and_fst (is_ghost core run.new run.rank k) (H p) e in
      let a = any_at (face_count (shape_of (core k))) (λ f. sends run.old run.new p run.rank (neighbour_of (core k) f)) (ghost-sent k g) in
      let n : ℕ = neighbour_of (core k) a.0 in
      let t = sends_true run.old run.new T p run.rank n a.2 in
      let r = holds_true run.new run.rank n t.0 in
      let s = T.same_ranks in
      let l = S.rank_below in
      let c = count_add run.new T.new_bytes T.new_ranks T.new_valid run.rank (omega arith) in
      let i : ℕ = n - first_tree run.new run.rank in
      let same : first_tree run.new run.rank + i ≡ n = omega arith in
      let u : H (sender run.old n run.rank) ≡ true = rw t.1 (and_snd (is_ghost core run.new run.rank k) (H p) e) in
      any_intro (tree_count run.new run.rank) (λ i. due H i && across k i) i (omega arith)
      (rw (same, u) (neighbour_beside run.mesh S.mesh_sound_lem k a.0 h a.1))

  -- the ghosts heard are at most F for each tree whose sender is heard
  pub heard_few : (H : ℕ → Bool) → count_below (mesh_trees run.mesh) (ghost_heard run H) ≤ ghost_bound (faces_in (mesh_dimension run.mesh)) (filled_by run.old run.new run.rank H)
  unfolding ghost_bound
  heard_few H =
      let K : ℕ = mesh_trees run.mesh in
      let e = S.same_trees_lem in
      let c = range_end run.old run.new run.rank T S.rank_below in
      le_trans (count_imp K (ghost_heard run H) (λ k. any_below (tree_count run.new run.rank) (λ i. due H i && across k i)) (heard-beside H))
      (count_beside_some K (tree_count run.new run.rank) (faces_in (mesh_dimension run.mesh)) (due H) (λ i. face_count (shape_of (core (first_tree run.new run.rank + i)))) (λ i f. neighbour_of (core (first_tree run.new run.rank + i)) f)
      (λ i h. rw (← sound_shape run.mesh S.mesh_sound_lem (first_tree run.new run.rank + i) (omega arith)) (count_faces (shape_of (core (first_tree run.new run.rank + i))))))
