-- What stands across a face of a tree of a cut part, in terms of the whole mesh.
use Prim.Native.Nat.{ℕ, ◌+◌, ◌-◌, ◌≤◌, ◌<◌}
use native.Mathlib.Omega.{arith}
use mathlib.Core.Path.{◌≡◌, sym, ap, ◌∙◌}
use mathlib.Core.Bool.{true, false≢true}
use mathlib.Core.List.{List}
use lib.Dec.{leb, ltb, eqb}
use lib.ListN.{length}
use borrow.Author.Tests.{lt-ltb, le-ltb, eq-eqb, ne_eqb}
use Rattle.encoding.specs.Pieces.{Bytes}
use Rattle.encoding.specs.Refusal.{first_failed}
use Rattle.encoding.proofs.Below.{either, tests, iff_eq}
use Rattle.offsets.specs.Table.{ranks, first_tree, tree_count, holds}
use Rattle.records.specs.Shape.{face_count, faces_in}
use Rattle.records.specs.Record.{shape_of, neighbour_of, face_of, orientation_of, to_itself}
use Rattle.mesh.specs.Mesh.{mesh_dimension, mesh_trees, mesh_core}
use Rattle.mesh.proofs.Soundness.{sound_core, neighbour_below}
use Rattle.part.specs.Ghosts.{ghost_position}
use Rattle.part.specs.Cut.{local_index, cut_part}
use Rattle.part.specs.Part.{stored_tree}
use Rattle.part_neighbour.specs.Neighbour.{link_of, mesh_link}
use Rattle.part_neighbour.specs.Calls.{neighbour_checks, neighbour_answer}
use Rattle.part_cut.proofs.Cutting.{Cuttable}
use Rattle.part_theorems.proofs.CutRead.{cut_count, cut_end, cut_tree}
use Rattle.part_theorems.proofs.Renamed.{renamed_shape, renamed_neighbour, renamed_face, renamed_orientation}
use Rattle.part_theorems.proofs.CutSound.{holds_range, range_local, local_below, local_tree, local_ghost, neighbour_local, cut_sound}

-- a difference is i where the number is i behind the other
sub_itself : (a m i : ℕ) → a ≤ m → eqb (m - a) i ≡ eqb m (a + i)
sub_itself a m i h = iff_eq (eqb (m - a) i) (eqb m (a + i)) (λ q. eq-eqb m (a + i) (omega tests)) (λ q. eq-eqb (m - a) i (omega tests))

module _ (mesh table : List ℕ) (rank : ℕ) (ok : Cuttable mesh table rank) (mesh_bytes : Bytes mesh) (bytes : Bytes table) where
  abbrev part : List ℕ
  part = cut_part mesh table rank

  abbrev first : ℕ
  first = first_tree table rank

  abbrev n : ℕ
  n = tree_count table rank

  abbrev rename : ℕ → ℕ
  rename = local_index mesh table rank

  module _ (m : ℕ) (below : m < mesh_trees mesh) where
    -- a local index is below n where the tree is in f(rank)
    local-in : ltb (rename m) n ≡ holds table rank m
    local-in =
        let d = cut_end mesh table rank ok bytes in
        either (holds table rank m)
        (λ e. let r = holds_range table rank m e in rw (e, local_tree mesh table rank ok mesh_bytes bytes m e) (lt-ltb (m - first) n (omega arith)))
        (λ e. rw (e, local_ghost mesh table rank ok mesh_bytes bytes m below e) (le-ltb _ n (omega arith)))

    -- it is i where the tree is tree i
    local-itself : (i : ℕ) → i < n → eqb (rename m) i ≡ eqb m (first + i)
    local-itself i h =
        let d = cut_end mesh table rank ok bytes in
        either (holds table rank m)
        (λ e. let r = holds_range table rank m e in rw (local_tree mesh table rank ok mesh_bytes bytes m e) (sub_itself first m i r.0))
        (λ e.
        rw (local_ghost mesh table rank ok mesh_bytes bytes m below e, ne_eqb (n + ghost_position (mesh_core mesh) table rank m) i (λ q. omega arith))
        (sym (ne_eqb m (first + i) (λ q. false≢true (sym e ∙ ap (holds table rank) q ∙ range_local mesh table rank ok mesh_bytes bytes i h)))))

  module _ (i : ℕ) (tree : i < tree_count table rank) where
    abbrev k : ℕ
    k = first + i

    abbrev r : List ℕ
    r = mesh_core mesh k

    inside : holds table rank k ≡ true
    inside = range_local mesh table rank ok mesh_bytes bytes i tree

    k-below : k < mesh_trees mesh
    k-below = local_below mesh table rank ok mesh_bytes bytes k inside

    long : length r ≡ 40
    long = sound_core mesh ok.mesh_sound_lem k k-below

    -- the shape is the mesh's
    pub cut_shape : shape_of (stored_tree (cut_part mesh table rank) i) ≡ shape_of (mesh_core mesh (first_tree table rank + i))
    cut_shape = ap shape_of (cut_tree mesh table rank ok bytes i tree) ∙ renamed_shape rename (faces_in (mesh_dimension mesh)) r long

    module _ (f : ℕ) (six : f < 6) where
      stored-neighbour : neighbour_of (stored_tree part i) f ≡ rename (neighbour_of r f)
      stored-neighbour =
          ap (λ (s : List ℕ). neighbour_of s f) (cut_tree mesh table rank ok bytes i tree)
          ∙ renamed_neighbour rename (faces_in (mesh_dimension mesh)) r long f six (neighbour_local mesh table rank ok mesh_bytes bytes k inside f six)

      stored-face : face_of (stored_tree part i) f ≡ face_of r f
      stored-face = ap (λ (s : List ℕ). face_of s f) (cut_tree mesh table rank ok bytes i tree) ∙ renamed_face rename (faces_in (mesh_dimension mesh)) r long f six

      stored-orientation : orientation_of (stored_tree part i) f ≡ orientation_of r f
      stored-orientation = ap (λ (s : List ℕ). orientation_of s f) (cut_tree mesh table rank ok bytes i tree) ∙ renamed_orientation rename (faces_in (mesh_dimension mesh)) r long f six

      -- what stands across the face is what the mesh says
      pub cut_link : link_of (cut_part mesh table rank) i f ≡ mesh_link mesh table rank i f
      unfolding link_of mesh_link to_itself
      cut_link =
          let m : ℕ = neighbour_of r f in
          rw (cut_shape, stored-neighbour, stored-face, stored-orientation, cut_count mesh table rank ok bytes)
          (either (leb (face_count (shape_of r)) f)
          (λ p. rw p)
          (λ p.
          let b : m < mesh_trees mesh = neighbour_below mesh ok.mesh_sound_lem k k-below f (omega tests) in
          either (holds table rank m)
          (λ e. rw (p, local-itself m b i tree, local-in m b, e, local_tree mesh table rank ok mesh_bytes bytes m e))
          (λ e. rw (p, local-itself m b i tree, local-in m b, e, local_ghost mesh table rank ok mesh_bytes bytes m b e))))

      -- so the call answers by the mesh
      pub cut_answer : neighbour_answer (cut_part mesh table rank) table rank i f ≡ record { refusal = 0; shape = shape_of (mesh_core mesh (first_tree table rank + i)); link = mesh_link mesh table rank i f }
      unfolding neighbour_answer neighbour_checks first_failed
      cut_answer =
          rw (ok.table_ranks, ok.table_valid, lt-ltb rank (ranks table) ok.rank_below, lt-ltb i n tree, lt-ltb f 6 six, cut_sound mesh table rank ok mesh_bytes bytes, cut_shape, cut_link)
