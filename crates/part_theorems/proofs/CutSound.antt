-- A cut part holds the mesh's records, agrees with every other part of the mesh, and is sound.
use Prim.Native.Nat.{ℕ, ◌+◌, ◌-◌, ◌*◌, ◌≤◌, ◌<◌}
use native.Mathlib.Nat.{add-sub_cancel_left}
use native.Mathlib.Omega.{arith}
use mathlib.Core.Path.{◌≡◌, refl, sym, ap, ◌∙◌}
use mathlib.Core.Bool.{Bool, true, false, not, ◌&&◌, ◌||◌, or-true}
use mathlib.Core.List.{List}
use lib.Dec.{leb, ltb, eqb}
use lib.ListN.{length, get_or}
use borrow.Author.Tests.{ltb-true, leb-true, eqb-true, le-leb, lt-ltb, le-ltb, eq-eqb, ne_eqb, eqb-false, not-true}
use Rattle.encoding.specs.Below.{any_below, least_below}
use Rattle.encoding.specs.Pieces.{piece, Bytes}
use Rattle.encoding.proofs.Below.{either, tests, and_fst, and_snd, and_intro, iff_eq, any_at, any_intro, any_same, count_le, least_is}
use Rattle.encoding.proofs.Pieces.{bytes_piece}
use Rattle.offsets.specs.Table.{ranks, trees, first_tree, end_tree, tree_count, holds}
use Rattle.records.specs.Shape.{face_count, faces_in}
use Rattle.records.specs.Record.{core_size, tree_size, unused, number_of, shape_of, neighbour_of, face_of}
use Rattle.records.proofs.Forms.{form_unused, unused_neighbour}
use Rattle.records.proofs.Shapes.{count_six, faces_positive}
use Rattle.mesh.specs.Link.{orientation_ok, link_ok}
use Rattle.mesh.specs.Mesh.{mesh_header, mesh_dimension, mesh_trees, mesh_core}
use Rattle.mesh.proofs.Soundness.{link_orientation, header_parts, sound_header, sound_core, sound_form, sound_number, sound_shape, sound_link, neighbour_below, face_there, link_back}
use Rattle.part.specs.Layout.{tree_place, part_size}
use Rattle.part.specs.Ghosts.{is_ghost, ghosts_of, ghost_position}
use Rattle.part.specs.Cut.{local_index, ghost_count, cut_part}
use Rattle.part.specs.Means.{is_local, ghost_is, held, held_core, tree_link, ghost_link, ghost_after, ghost_beside, part_linked}
use Rattle.part.proofs.Sound.{part_sound_is}
use Rattle.part.proofs.Same.{holds_held, core_held}
use Rattle.part.specs.Part.{part_dimension, part_k, part_first, part_count, part_ghost_count, stored_ghost, global_number, global_tree, part_holds, part_core, part_header_sound, part_sound}
use Rattle.part_cut.proofs.Cutting.{Cuttable, cut_length}
use Rattle.part.proofs.Ghosts.{ghost_at, ghost_found, ghosts_ascend}
use Rattle.part_theorems.proofs.CutRead.{cuttable_fits, cut_dimension, cut_k, cut_ranks, cut_rank, cut_first, cut_count, cut_ghosts, cut_zero, cut_end, cut_within, cut_tree, cut_data, cut_ghost, position_below, cut_ghost_at, cut_ghost_number}
use Rattle.part.proofs.Views.{link_same, tree_link_make, ghost_link_make, TreeView, GhostView, view_make}
use Rattle.part_theorems.proofs.Renamed.{renamed_number, renamed_back}

-- k is in the range
pub holds_range : (table : List ℕ) (rank k : ℕ) → holds table rank k ≡ true → (first_tree table rank ≤ k) × (k < end_tree table rank)
unfolding holds
holds_range table rank k e = (leb-true _ _ (and_fst (leb (first_tree table rank) k) _ e), ltb-true _ _ (and_snd (leb (first_tree table rank) k) _ e))

-- a link that obeys the rule has an orientation below the corners of its face
orientation_of_lem : (core : ℕ → List ℕ) (k f : ℕ) → link_ok core k f ≡ true → orientation_ok (core k) f ≡ true
unfolding orientation_ok
orientation_of_lem core k f e = lt-ltb _ _ (link_orientation core k f e)

module _ (mesh table : List ℕ) (rank : ℕ) (ok : Cuttable mesh table rank) (mesh_bytes : Bytes mesh) (bytes : Bytes table) where
  abbrev part : List ℕ
  part = cut_part mesh table rank

  abbrev K : ℕ
  K = mesh_trees mesh

  abbrev first : ℕ
  first = first_tree table rank

  abbrev n : ℕ
  n = tree_count table rank

  abbrev ghost : ℕ → Bool
  ghost = is_ghost (mesh_core mesh) table rank

  abbrev position : ℕ → ℕ
  position = ghost_position (mesh_core mesh) table rank

  -- ---- a tree's neighbours

  -- a tree of f(rank) is below K
  pub local_below : (k : ℕ) → holds table rank k ≡ true → k < mesh_trees mesh
  local_below k e = let r = holds_range table rank k e in let w = cuttable_fits mesh table rank ok bytes in omega arith

  -- a neighbour of a tree of f(rank) is unused, in f(rank), or a ghost
  pub neighbour_cases : {C : Type 0} (k : ℕ) → holds table rank k ≡ true → (f : ℕ) → f < 6
      → (neighbour_of (mesh_core mesh k) f ≡ unused → C)
      → (neighbour_of (mesh_core mesh k) f < mesh_trees mesh → holds table rank (neighbour_of (mesh_core mesh k) f) ≡ true → C)
      → (neighbour_of (mesh_core mesh k) f < mesh_trees mesh → holds table rank (neighbour_of (mesh_core mesh k) f) ≡ false → is_ghost (mesh_core mesh) table rank (neighbour_of (mesh_core mesh k) f) ≡ true → C) → C
  unfolding is_ghost
  neighbour_cases k e f h none tree beside =
      let m : ℕ = neighbour_of (mesh_core mesh k) f in
      let l : k < K = local_below k e in
      let s = ok.mesh_sound_lem in
      either (ltb f (face_count (shape_of (mesh_core mesh k))))
      (λ p.
      let face : f < face_count (shape_of (mesh_core mesh k)) = ltb-true _ _ p in
      let b : m < K = neighbour_below mesh s k l f face in
      either (holds table rank m) (tree b)
      (λ q. beside b q
      (and_intro (not (holds table rank m)) (any_below (face_count (shape_of (mesh_core mesh m))) (λ g. holds table rank (neighbour_of (mesh_core mesh m) g))) (rw q)
      (any_intro (face_count (shape_of (mesh_core mesh m))) (λ g. holds table rank (neighbour_of (mesh_core mesh m) g)) (face_of (mesh_core mesh k) f) (face_there mesh s k l f face) (rw (link_back mesh s k l f face).0 e)))))
      (λ p. none (unused_neighbour (mesh_core mesh k) f (form_unused k (mesh_core mesh k) (sound_form mesh s k l) f (omega tests) h)))

  -- ---- local indices

  -- the local index of an unused face, of a tree and of a ghost
  pub local_unused : local_index mesh table rank unused ≡ unused
  unfolding local_index
  local_unused = refl

  pub local_tree : (k : ℕ) → holds table rank k ≡ true → local_index mesh table rank k ≡ k - first_tree table rank
  unfolding local_index
  local_tree k e =
      let l = local_below k e in let w = cuttable_fits mesh table rank ok bytes in
      rw (ne_eqb k unused (λ q. omega arith), e)

  pub local_ghost : (k : ℕ) → k < mesh_trees mesh → holds table rank k ≡ false → local_index mesh table rank k ≡ tree_count table rank + ghost_position (mesh_core mesh) table rank k
  unfolding local_index
  local_ghost k l e =
      let w = cuttable_fits mesh table rank ok bytes in
      rw (ne_eqb k unused (λ q. omega arith), e)

  -- the global number behind a local index
  global-unused : global_number part unused ≡ unused
  unfolding global_number
  global-unused = refl

  global-tree : (i : ℕ) → i < n → global_number part i ≡ first + i
  unfolding global_number
  global-tree i h =
      let w = cuttable_fits mesh table rank ok bytes in
      let b = cut_within mesh table rank ok bytes in
      let l : first + i < K = omega arith in
      let c = sound_core mesh ok.mesh_sound_lem (first + i) l in
      rw (ne_eqb i unused (λ q. omega arith), cut_count mesh table rank ok bytes, lt-ltb i n h)
      (ap number_of (cut_tree mesh table rank ok bytes i h) ∙ renamed_number (local_index mesh table rank) (faces_in (mesh_dimension mesh)) (mesh_core mesh (first + i)) c ∙ sound_number mesh ok.mesh_sound_lem (first + i) l)

  global-ghost : (k : ℕ) → k < K → ghost k ≡ true → global_number part (n + position k) ≡ k
  unfolding global_number ghost_position
  global-ghost k l e =
      let w = cuttable_fits mesh table rank ok bytes in
      let b = cut_within mesh table rank ok bytes in
      let p = position_below mesh table rank ok bytes k l e in
      rw (
        ne_eqb (n + position k) unused (λ q. omega (arith, count_le k ghost)),
        cut_count mesh table rank ok bytes,
        cut_ghosts mesh table rank ok bytes,
        le-ltb (n + position k) n (omega arith),
        lt-ltb (n + position k) (n + ghost_count mesh table rank) (omega arith),
        add-sub_cancel_left n (position k),
      )
      (cut_ghost_number mesh table rank ok bytes k l e)

  -- a neighbour renamed to a local index and back is itself
  pub index_unused : global_number (cut_part mesh table rank) (local_index mesh table rank unused) ≡ unused
  index_unused = rw local_unused global-unused

  pub index_tree : (k : ℕ) → holds table rank k ≡ true → global_number (cut_part mesh table rank) (local_index mesh table rank k) ≡ k
  index_tree k e =
      let r = holds_range table rank k e in
      let d = cut_end mesh table rank ok bytes in
      rw (local_tree k e, global-tree (k - first) (omega arith)) (omega arith)

  pub index_ghost : (k : ℕ) → k < mesh_trees mesh → holds table rank k ≡ false → is_ghost (mesh_core mesh) table rank k ≡ true → global_number (cut_part mesh table rank) (local_index mesh table rank k) ≡ k
  index_ghost k l e t = rw (local_ghost k l e) (global-ghost k l t)

  module _ (k : ℕ) (tree : holds table rank k ≡ true) (f : ℕ) (face : f < 6) where
    -- so it is for each neighbour of a tree of f(rank)
    neighbour-back : global_number part (local_index mesh table rank (neighbour_of (mesh_core mesh k) f)) ≡ neighbour_of (mesh_core mesh k) f
    neighbour-back =
        neighbour_cases k tree f face
        (λ e. rw e index_unused)
        (λ l e. index_tree (neighbour_of (mesh_core mesh k) f) e)
        (λ l e t. index_ghost (neighbour_of (mesh_core mesh k) f) l e t)

    -- whose local index has 32 bits
    pub neighbour_local : local_index mesh table rank (neighbour_of (mesh_core mesh k) f) < 4294967296
    unfolding ghost_position
    neighbour_local =
        let m : ℕ = neighbour_of (mesh_core mesh k) f in
        let w = cuttable_fits mesh table rank ok bytes in
        let b = cut_within mesh table rank ok bytes in
        neighbour_cases k tree f face
        (λ e. rw (e, local_unused) (omega arith))
        (λ l e. rw (local_tree m e) (omega arith))
        (λ l e t. rw (local_ghost m l e) (omega (arith, count_le m ghost)))

  -- ---- the records held

  -- the trees of f(rank)
  pub range_local : (i : ℕ) → i < tree_count table rank → holds table rank (first_tree table rank + i) ≡ true
  unfolding holds
  range_local i h = let d = cut_end mesh table rank ok bytes in and_intro (leb first (first + i)) _ (le-leb first (first + i) (omega arith)) (lt-ltb (first + i) (end_tree table rank) (omega arith))

  core-bytes : (k : ℕ) → Bytes (mesh_core mesh k)
  unfolding mesh_core
  core-bytes k = bytes_piece mesh (mesh_header + tree_size * k) core_size mesh_bytes

  -- tree i with neighbours as global numbers is the mesh's core
  pub cut_global : (i : ℕ) → i < tree_count table rank → global_tree (cut_part mesh table rank) i ≡ mesh_core mesh (first_tree table rank + i)
  unfolding global_tree
  cut_global i h =
      let k : ℕ = first + i in
      let t : holds table rank k ≡ true = range_local i h in
      rw (cut_dimension mesh table rank ok bytes, cut_tree mesh table rank ok bytes i h)
      (renamed_back (local_index mesh table rank) (global_number part) (faces_in (mesh_dimension mesh)) (mesh_core mesh k) (neighbour-back k t) (core-bytes k) (sound_core mesh ok.mesh_sound_lem k (local_below k t)) (faces_positive (mesh_dimension mesh)) (neighbour_local k t))

  abbrev is_tree : ℕ → Bool
  is_tree = is_local (part_first part) (part_count part) (part_ghost_count part) (global_tree part) (stored_ghost part)

  abbrev is_at : ℕ → ℕ → Bool
  is_at = ghost_is (part_first part) (part_count part) (part_ghost_count part) (global_tree part) (stored_ghost part)

  tree_is : (k : ℕ) → is_tree k ≡ holds table rank k
  unfolding is_local holds
  tree_is k = rw (cut_first mesh table rank ok bytes, cut_count mesh table rank ok bytes, cut_end mesh table rank ok bytes)

  -- ghost j
  abbrev number : ℕ → ℕ
  number j = get_or (ghosts_of (mesh_core mesh) table rank K) j 0

  at-is : (k j : ℕ) → j < ghost_count mesh table rank → is_at k j ≡ eqb (number j) k
  unfolding ghost_is ghost_count
  at-is k j h =
      rw (cut_ghost mesh table rank ok bytes j h, sound_number mesh ok.mesh_sound_lem (number j) (ghost_found (mesh_core mesh) table rank K j 0 h).0)

  ghost-there : (k : ℕ) → any_below (part_ghost_count part) (is_at k) ≡ (ltb k K && ghost k)
  unfolding ghost_count
  ghost-there k =
      ap (λ (g : ℕ). any_below g (is_at k)) (cut_ghosts mesh table rank ok bytes)
      ∙ iff_eq (any_below (position K) (is_at k)) (ltb k K && ghost k)
      (λ e.
      let a = any_at (position K) (is_at k) e in
      let w = ghost_found (mesh_core mesh) table rank K a.0 0 a.1 in
      let q : number a.0 ≡ k = eqb-true _ _ (sym (at-is k a.0 a.1) ∙ a.2) in
      rw (← q) (and_intro (ltb (number a.0) K) (ghost (number a.0)) (lt-ltb _ _ w.0) w.1))
      (λ e.
      let l : k < K = ltb-true _ _ (and_fst (ltb k K) (ghost k) e) in
      let t : ghost k ≡ true = and_snd (ltb k K) (ghost k) e in
      let p = position_below mesh table rank ok bytes k l t in
      any_intro (position K) (is_at k) (position k) p (at-is k (position k) p ∙ eq-eqb _ _ (ghost_at (mesh_core mesh) table rank K k 0 l t)))

  ghost-least : (k : ℕ) → k < K → ghost k ≡ true → least_below (part_ghost_count part) (is_at k) ≡ position k
  unfolding ghost_count
  ghost-least k l t =
      let p = position_below mesh table rank ok bytes k l t in
      ap (λ (g : ℕ). least_below g (is_at k)) (cut_ghosts mesh table rank ok bytes)
      ∙ least_is (position K) (is_at k) (position k) p (at-is k (position k) p ∙ eq-eqb _ _ (ghost_at (mesh_core mesh) table rank K k 0 l t))
      (λ j h.
      let w = ghost_found (mesh_core mesh) table rank K j 0 (omega arith) in
      at-is k j (omega arith) ∙ ne_eqb (number j) k (λ e. let q : position k ≡ j = rw e at w.2 in omega arith))

  -- the part holds tree k
  holds-is : (k : ℕ) → part_holds part k ≡ (holds table rank k || (ltb k K && ghost k))
  unfolding held
  holds-is k = holds_held part k ∙ rw (tree_is k, ghost-there k)

  -- the part holds the trees of f(rank) and the ghosts
  pub cut_holds : (k : ℕ) → k < mesh_trees mesh → part_holds (cut_part mesh table rank) k ≡ (holds table rank k || is_ghost (mesh_core mesh) table rank k)
  cut_holds k l = holds-is k ∙ rw (lt-ltb k K l)

  -- and no other
  pub held_below_lem : (k : ℕ) → part_holds (cut_part mesh table rank) k ≡ true → k < mesh_trees mesh
  held_below_lem k e =
      let h : (holds table rank k || (ltb k K && ghost k)) ≡ true = sym (holds-is k) ∙ e in
      either (holds table rank k) (local_below k) (λ q. ltb-true _ _ (and_fst (ltb k K) (ghost k) (rw q at h)))

  -- each record held is the mesh's
  pub cut_core : (k : ℕ) → part_holds (cut_part mesh table rank) k ≡ true → part_core (cut_part mesh table rank) k ≡ mesh_core mesh k
  unfolding held_core
  cut_core k e =
      let h : (holds table rank k || (ltb k K && ghost k)) ≡ true = sym (holds-is k) ∙ e in
      core_held part k
      ∙ rw (tree_is k)
      (either (holds table rank k)
      (λ q.
      let r = holds_range table rank k q in
      let d = cut_end mesh table rank ok bytes in
      let s : first + (k - first) ≡ k = omega arith in
      rw (q, cut_first mesh table rank ok bytes, cut_global (k - first) (omega arith), s))
      (λ q.
      let t : (ltb k K && ghost k) ≡ true = rw q at h in
      let l : k < K = ltb-true _ _ (and_fst (ltb k K) (ghost k) t) in
      let u : ghost k ≡ true = and_snd (ltb k K) (ghost k) t in
      rw (q, ghost-least k l u) (cut_ghost_at mesh table rank ok bytes k l u)))

  -- the tree data of tree k is the mesh's
  pub cut_data_at : (k : ℕ) → holds table rank k ≡ true → piece (cut_part mesh table rank) (tree_place (k - first_tree table rank) + core_size) 24 ≡ piece mesh (mesh_header + tree_size * k + core_size) 24
  cut_data_at k e =
      let r = holds_range table rank k e in
      let d = cut_end mesh table rank ok bytes in
      let s : first + (k - first) ≡ k = omega arith in
      cut_data mesh table rank ok bytes (k - first) (omega arith) ∙ ap (λ (m : ℕ). piece mesh (mesh_header + tree_size * m + core_size) 24) s

  -- ---- soundness

  header-sound : part_header_sound part table rank ≡ true
  unfolding part_header_sound
  header-sound =
      rw (
        cut_dimension mesh table rank ok bytes,
        (header_parts mesh (sound_header mesh ok.mesh_sound_lem)).0,
        cut_k mesh table rank ok bytes,
        ok.same_trees_lem,
        cut_ranks mesh table rank ok bytes,
        cut_rank mesh table rank ok bytes,
        cut_first mesh table rank ok bytes,
        cut_count mesh table rank ok bytes,
        cut_zero mesh table rank ok bytes,
        eq-eqb (trees table) (trees table) refl,
        eq-eqb (ranks table) (ranks table) refl,
        eq-eqb rank rank refl,
        eq-eqb first first refl,
        eq-eqb n n refl,
      )

  -- a tree of f(rank) is held, and so is a ghost
  pub tree_held : (k : ℕ) → holds table rank k ≡ true → part_holds (cut_part mesh table rank) k ≡ true
  tree_held k e = cut_holds k (local_below k e) ∙ rw e

  pub ghost_held : (k : ℕ) → k < mesh_trees mesh → is_ghost (mesh_core mesh) table rank k ≡ true → part_holds (cut_part mesh table rank) k ≡ true
  ghost_held k l e = cut_holds k l ∙ rw (e, or-true)

  -- the neighbours of a tree of f(rank) are held
  pub neighbour_held : (k : ℕ) → holds table rank k ≡ true → (f : ℕ) → f < face_count (shape_of (mesh_core mesh k)) → part_holds (cut_part mesh table rank) (neighbour_of (mesh_core mesh k) f) ≡ true
  neighbour_held k e f h =
      let m : ℕ = neighbour_of (mesh_core mesh k) f in
      let w = cuttable_fits mesh table rank ok bytes in
      let b : m < K = neighbour_below mesh ok.mesh_sound_lem k (local_below k e) f h in
      neighbour_cases k e f (omega (arith, count_six (shape_of (mesh_core mesh k))))
      (λ u. absurd (omega arith))
      (λ l t. tree_held m t)
      (λ l t g. ghost_held m l g)

  -- a link between two records held obeys the rule
  link-held : (k : ℕ) → part_holds part k ≡ true → (f : ℕ) → f < face_count (shape_of (mesh_core mesh k)) → part_holds part (neighbour_of (mesh_core mesh k) f) ≡ true → link_ok (part_core part) k f ≡ true
  link-held k e f h t =
      link_same (part_core part) (mesh_core mesh) k f (cut_core k e) (cut_core (neighbour_of (mesh_core mesh k) f) t) ∙ sound_link mesh ok.mesh_sound_lem k (held_below_lem k e) f h

  tree-link : (k : ℕ) → holds table rank k ≡ true → (f : ℕ) → f < face_count (shape_of (mesh_core mesh k)) → tree_link (part_first part) (part_count part) (part_ghost_count part) (global_tree part) (stored_ghost part) k f ≡ true
  unfolding part_holds part_core held held_core is_local ghost_is
  tree-link k e f h =
      let t = neighbour_held k e f h in
      let same : neighbour_of (part_core part k) f ≡ neighbour_of (mesh_core mesh k) f = ap (λ (r : List ℕ). neighbour_of r f) (cut_core k (tree_held k e)) in
      tree_link_make _ _ _ _ _ k f (ap (part_holds part) same ∙ t) (link-held k (tree_held k e) f h t)

  tree-sound : (i : ℕ) → i < n → TreeView (part_first part) (part_count part) (part_ghost_count part) (global_tree part) (stored_ghost part) (part_dimension part) i
  tree-sound i h =
      let k : ℕ = first + i in
      let t : holds table rank k ≡ true = range_local i h in
      let l : k < K = local_below k t in
      let s = ok.mesh_sound_lem in
      let c : global_tree part i ≡ mesh_core mesh k = cut_global i h in
      let e : part_first part + i ≡ k = ap (λ (m : ℕ). m + i) (cut_first mesh table rank ok bytes) in
      record {
        form = rw (e, c) (sound_form mesh s k l);
        number = rw (e, c) (sound_number mesh s k l);
        shape = rw (cut_dimension mesh table rank ok bytes, c) (sound_shape mesh s k l);
        links = λ f p. rw e (tree-link k t f (rw c at p));
      }

  ghost-link : (k : ℕ) → k < K → ghost k ≡ true → (f : ℕ) → f < face_count (shape_of (mesh_core mesh k)) → ghost_link (part_first part) (part_count part) (part_ghost_count part) (global_tree part) (stored_ghost part) (part_k part) k f ≡ true
  unfolding part_holds part_core held held_core is_local ghost_is
  ghost-link k l t f h =
      let e : part_holds part k ≡ true = ghost_held k l t in
      let c : part_core part k ≡ mesh_core mesh k = cut_core k e in
      let same : neighbour_of (part_core part k) f ≡ neighbour_of (mesh_core mesh k) f = ap (λ (r : List ℕ). neighbour_of r f) c in
      let link : link_ok (mesh_core mesh) k f ≡ true = sound_link mesh ok.mesh_sound_lem k l f h in
      let below : neighbour_of (mesh_core mesh k) f < K = neighbour_below mesh ok.mesh_sound_lem k l f h in
      ghost_link_make _ _ _ _ _ k f (part_k part) (λ p. link-held k e f h (ap (part_holds part) (sym same) ∙ p))
      (omega (arith, same, cut_k mesh table rank ok bytes))
      (ap (λ (r : List ℕ). orientation_ok r f) c ∙ orientation_of_lem (mesh_core mesh) k f link)

  after_is : (j : ℕ) → j < ghost_count mesh table rank → ghost_after (part_first part) (part_count part) (part_ghost_count part) (global_tree part) (stored_ghost part) j ≡ true
  unfolding ghost_after ghost_count
  after_is j h =
      either (eqb j 0) (λ e. rw e)
      (λ e.
      let z : 0 < j = omega (arith, eqb-false j 0 e) in
      let a = cut_ghost mesh table rank ok bytes (j - 1) (omega arith) in
      let b = cut_ghost mesh table rank ok bytes j h in
      let la = (ghost_found (mesh_core mesh) table rank K (j - 1) 0 (omega arith)).0 in
      let lb = (ghost_found (mesh_core mesh) table rank K j 0 h).0 in
      rw (e, a, b, sound_number mesh ok.mesh_sound_lem (number (j - 1)) la, sound_number mesh ok.mesh_sound_lem (number j) lb)
      (lt-ltb (number (j - 1)) (number j) (ghosts_ascend (mesh_core mesh) table rank K (j - 1) j 0 (omega arith) h)))

  beside-is : (j : ℕ) → j < ghost_count mesh table rank → ghost_beside (part_first part) (part_count part) (part_ghost_count part) (global_tree part) (stored_ghost part) j ≡ true
  unfolding ghost_beside ghost_count is_ghost
  beside-is j h =
      let k : ℕ = number j in
      let t = (ghost_found (mesh_core mesh) table rank K j 0 h).1 in
      let c : stored_ghost part j ≡ mesh_core mesh k = cut_ghost mesh table rank ok bytes j h in
      rw c
      (any_same (face_count (shape_of (mesh_core mesh k))) (λ f. is_tree (neighbour_of (mesh_core mesh k) f)) (λ f. holds table rank (neighbour_of (mesh_core mesh k) f)) (λ f p. tree_is (neighbour_of (mesh_core mesh k) f))
      ∙ and_snd (not (holds table rank k)) (any_below (face_count (shape_of (mesh_core mesh k))) (λ f. holds table rank (neighbour_of (mesh_core mesh k) f))) t)

  ghost-sound : (j : ℕ) → j < ghost_count mesh table rank → GhostView (part_first part) (part_count part) (part_ghost_count part) (global_tree part) (stored_ghost part) (part_dimension part) (part_k part) j
  unfolding ghost_count is_ghost
  ghost-sound j h =
      let k : ℕ = number j in
      let w = ghost_found (mesh_core mesh) table rank K j 0 h in
      let s = ok.mesh_sound_lem in
      let c : stored_ghost part j ≡ mesh_core mesh k = cut_ghost mesh table rank ok bytes j h in
      let e : number_of (mesh_core mesh k) ≡ k = sound_number mesh s k w.0 in
      record {
        form = rw (c, e) (sound_form mesh s k w.0);
        below = rw (c, e, cut_k mesh table rank ok bytes) w.0;
        outside = rw (c, e, tree_is k) (not-true (holds table rank k) (and_fst (not (holds table rank k)) _ w.1));
        after = after_is j h;
        shape = rw (cut_dimension mesh table rank ok bytes, c) (sound_shape mesh s k w.0);
        beside = beside-is j h;
        links = λ f p. rw (c, e) (ghost-link k w.0 w.1 f (rw c at p));
      }

  -- a cut part is sound
  pub cut_sound : part_sound (cut_part mesh table rank) table rank ≡ true
  unfolding part_linked
  cut_sound =
      let w = cuttable_fits mesh table rank ok bytes in
      let l : length part ≡ part_size (part_count part) (part_ghost_count part) = rw (cut_count mesh table rank ok bytes, cut_ghosts mesh table rank ok bytes) (cut_length mesh table rank ok.mesh_sound_lem w.rises w.within) in
      part_sound_is part table rank bytes (record { counted = ok.table_ranks; checked = ok.table_valid; below = ok.rank_below })
      ∙ rw (header-sound, eq-eqb (length part) _ l)
      (view_make (part_first part) (part_count part) (part_ghost_count part) (global_tree part) (stored_ghost part) (part_dimension part) (part_k part)
      (λ i h. tree-sound i (rw (cut_count mesh table rank ok bytes) at h))
      (λ j h. ghost-sound j (rw (cut_ghosts mesh table rank ok bytes) at h)))

-- ---- two parts of one mesh

module _ (mesh : List ℕ) (mesh_bytes : Bytes mesh) (a : List ℕ) (p : ℕ) (cut-a : Cuttable mesh a p) (a-bytes : Bytes a) (b : List ℕ) (q : ℕ) (cut-b : Cuttable mesh b q) (b-bytes : Bytes b) (k : ℕ) where
  -- they agree on every record that both hold
  pub parts_agree : part_holds (cut_part mesh a p) k ≡ true → part_holds (cut_part mesh b q) k ≡ true → part_core (cut_part mesh a p) k ≡ part_core (cut_part mesh b q) k
  parts_agree h l = cut_core mesh a p cut-a mesh_bytes a-bytes k h ∙ sym (cut_core mesh b q cut-b mesh_bytes b-bytes k l)

  -- and on the tree data of every tree that both have
  pub parts_agree_data : holds a p k ≡ true → holds b q k ≡ true
      → piece (cut_part mesh a p) (tree_place (k - first_tree a p) + core_size) 24 ≡ piece (cut_part mesh b q) (tree_place (k - first_tree b q) + core_size) 24
  parts_agree_data h l = cut_data_at mesh a p cut-a mesh_bytes a-bytes k h ∙ sym (cut_data_at mesh b q cut-b mesh_bytes b-bytes k l)
