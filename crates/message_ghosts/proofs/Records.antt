-- Laws of the records of a sound part by their local index.
use Prim.Native.Nat.{ℕ, zero, suc, ◌+◌, ◌-◌, ◌≤◌, ◌<◌}
use native.Mathlib.Omega.{arith}
use mathlib.Core.Path.{◌≡◌, sym, ap, ◌∙◌}
use mathlib.Core.Bool.{true}
use mathlib.Core.List.{List}
use lib.Dec.{ltb, eqb}
use lib.ListN.{length}
use borrow.Author.Tests.{ltb-true, lt-ltb, le-ltb}
use Rattle.encoding.specs.Pieces.{Bytes}
use Rattle.encoding.proofs.Below.{either, tests, clash}
use Rattle.encoding.proofs.Numbers.{at_bound}
use Rattle.encoding.proofs.Pieces.{piece_length, bytes_piece}
use Rattle.offsets.specs.Table.{ranks, trees, first_tree, end_tree, tree_count, holds}
use Rattle.offsets.proofs.Tables.{trees_high, count_add, end_trees}
use Rattle.pattern.specs.Sender.{Tables}
use Rattle.pattern.proofs.Senders.{holds_in}
use Rattle.records.specs.Shape.{face_count, faces_in}
use Rattle.records.specs.Record.{core_size, unused, number_of, shape_of, neighbour_of}
use Rattle.records.proofs.Shapes.{count_six}
use Rattle.part.specs.Layout.{tree_place, ghost_place}
use Rattle.part.specs.Means.{record_place}
use Rattle.part.specs.Part.{no_tree, part_dimension, part_k, part_first, part_count, part_ghost_count, stored_tree, stored_ghost, global_number, global_tree, part_holds, part_core, part_sound}
use Rattle.part_theorems.proofs.Renamed.{renamed_number, renamed_shape, renamed_neighbour}
use Rattle.part_theorems.proofs.SoundParts.{part_header_lem, part_length, part_tree_lem, part_number, part_held, part_core_tree, part_core_ghost, part_ghost_held, part_ghost_below, part_outside, part_ascends, part_below}
use Rattle.message_ghosts.specs.Means.{number_in, Known, record_in, across_at, AtFace}

-- a number that is read has 32 bits
number_small : (r : List ℕ) → Bytes r → number_of r < 4294967296
unfolding number_of
number_small r b = at_bound 4 r 0 b

module _ (part old new : List ℕ) (p q count : ℕ) (k : Known part old new p q count) where
  abbrev sound : part_sound part old p ≡ true
  sound = k.sending.sound

  abbrev T : Tables old new
  T = k.sending.pair.tables

  abbrev P : p < ranks old
  P = k.sending.pair.sender_below

  abbrev ghosts : ℕ
  ghosts = part_ghost_count part

  abbrev first : ℕ
  first = part_first part

  -- every record held is below K
  pub held_below_lem : (g : ℕ) → part_holds part g ≡ true → (g < trees old) × (g < 1048576)
  held_below_lem g h =
      let l : g < part_k part = part_below part old p sound T.old_bytes T.old_ranks T.old_valid P g h in
      let e = (part_header_lem part old p sound).all_trees in
      (omega arith, omega (arith, trees_high old T.old_bytes T.old_ranks T.old_valid))

  -- ---- where they stand

  -- a record is inside the part
  pub place_fits : (j : ℕ) → j < count + part_ghost_count part → record_place count j + core_size ≤ length part
  unfolding record_place
  place_fits j h =
      let c = k.counted in
      let l = part_length part old p sound in
      either (ltb j count) (λ e. rw e (omega tests)) (λ e. rw e (omega tests))

  record_tree : (i : ℕ) → i < count → record_in part count i ≡ stored_tree part i
  unfolding record_in record_place stored_tree
  record_tree i h = rw (lt-ltb i count h)

  record_ghost : (j : ℕ) → count ≤ j → record_in part count j ≡ stored_ghost part (j - count)
  unfolding record_in record_place stored_ghost
  record_ghost j h = rw (le-ltb j count h, ← k.counted)

  -- ---- trees

  tree-own : (i : ℕ) → i < count → holds old p (part_first part + i) ≡ true
  tree-own i h =
      let e = part_header_lem part old p sound in
      let f : part_first part ≡ first_tree old p = e.first_tree_lem in
      let n : part_count part ≡ tree_count old p = e.tree_count_lem in
      let c = k.counted in
      holds_in old p (first + i) (omega arith) (omega (arith, count_add old T.old_bytes T.old_ranks T.old_valid p P))

  pub tree_held : (i : ℕ) → i < count → part_holds part (part_first part + i) ≡ true
  tree_held i h = part_tree_lem part old p sound (first + i) (tree-own i h)

  tree_core : (i : ℕ) → i < count → part_core part (part_first part + i) ≡ global_tree part i
  tree_core i h = let c = k.counted in part_core_tree part old p sound i (omega arith)

  stored-long : (i : ℕ) → i < count → length (stored_tree part i) ≡ 40
  unfolding stored_tree
  stored-long i h =
      let c = k.counted in
      piece_length part (tree_place i) core_size (omega (arith, part_length part old p sound))

  tree-same : (i : ℕ) → i < count → number_in part count i ≡ number_of (stored_tree part i)
  unfolding number_in
  tree-same i h = ap number_of (record_tree i h)

  -- the number of tree i
  pub tree_number : (i : ℕ) → i < count → number_in part count i ≡ part_first part + i
  unfolding global_tree
  tree_number i h =
      tree-same i h ∙ sym (renamed_number (global_number part) (faces_in (part_dimension part)) (stored_tree part i) (stored-long i h))
      ∙ ap number_of (sym (tree_core i h)) ∙ part_number part old p sound (first + i) (tree_held i h)

  -- ---- ghosts

  ghost-number : (j : ℕ) → count ≤ j → number_in part count j ≡ number_of (stored_ghost part (j - count))
  unfolding number_in
  ghost-number j h = ap number_of (record_ghost j h)

  ghost_core_lem : (j : ℕ) → count ≤ j → j < count + ghosts → part_core part (number_in part count j) ≡ record_in part count j
  ghost_core_lem j h l =
      rw (ghost-number j h, record_ghost j h) (part_core_ghost part old p sound (j - count) (omega arith))

  -- ---- both

  abbrev ghost_at : ℕ → ℕ
  ghost_at j = number_of (stored_ghost part j)

  -- ghost j has at least j numbers before it
  ghost-from : (j : ℕ) → j < ghosts → j ≤ ghost_at j
  ghost-from zero h = omega arith
  ghost-from (suc j) h = omega (arith, ghost-from j (omega arith), part_ascends part old p sound j (suc j) (omega arith) h)

  -- it is before the trees or behind them
  ghost-apart : (j : ℕ) → j < ghosts → ghost_at j < end_tree old p → ghost_at j < first_tree old p
  ghost-apart j h l =
      either (ltb (ghost_at j) (first_tree old p)) (λ e. ltb-true (ghost_at j) (first_tree old p) e)
      (λ e. clash (holds_in old p (ghost_at j) (omega tests) l) (part_outside part old p sound j h))

  -- behind them it has the trees before it too
  ghost-behind : (j : ℕ) → j < ghosts → end_tree old p ≤ ghost_at j → tree_count old p + j ≤ ghost_at j
  ghost-behind zero h l = omega (arith, count_add old T.old_bytes T.old_ranks T.old_valid p P)
  ghost-behind (suc j) h l =
      let a = part_ascends part old p sound j (suc j) (omega arith) h in
      let n = count_add old T.old_bytes T.old_ranks T.old_valid p P in
      let m : j < ghosts = omega arith in
      either (ltb (ghost_at j) (end_tree old p))
      (λ e. omega (arith, n, ghost-from j m, ghost-apart j m (ltb-true (ghost_at j) (end_tree old p) e)))
      (λ e. omega (arith, a, ghost-behind j m (omega tests)))

  -- there are no more records than trees
  pub records_few : count + part_ghost_count part ≤ trees old
  records_few =
      let e = part_header_lem part old p sound in
      let m : part_count part ≡ tree_count old p = e.tree_count_lem in
      let K : part_k part ≡ trees old = e.all_trees in
      let c = k.counted in
      let n = count_add old T.old_bytes T.old_ranks T.old_valid p P in
      let l = end_trees old T.old_bytes T.old_ranks T.old_valid p P in
      either (ltb 0 ghosts)
      (λ g.
      let h : ghosts - 1 < ghosts = omega tests in
      let b = part_ghost_below part old p sound (ghosts - 1) h in
      either (ltb (ghost_at (ghosts - 1)) (end_tree old p))
      (λ d. omega (tests, n, l, c, m, K, h, ghost-from (ghosts - 1) h, ghost-apart (ghosts - 1) h (ltb-true (ghost_at (ghosts - 1)) (end_tree old p) d)))
      (λ d. omega (tests, b, c, m, K, h, ghost-behind (ghosts - 1) h (omega tests))))
      (λ g. omega (tests, n, l, c, m))

  -- the record at an index is held
  pub number_held : (j : ℕ) → j < count + part_ghost_count part → part_holds part (number_in part count j) ≡ true
  number_held j l =
      either (ltb j count)
      (λ e. rw (tree_number j (ltb-true j count e)) (tree_held j (ltb-true j count e)))
      (λ e. rw (ghost-number j (omega tests)) (part_ghost_held part old p sound (j - count) (omega tests)))

  -- its shape
  pub shape_is : (j : ℕ) → j < count + part_ghost_count part → shape_of (record_in part count j) ≡ shape_of (part_core part (number_in part count j))
  unfolding global_tree
  shape_is j l =
      either (ltb j count)
      (λ e.
      let h : j < count = ltb-true j count e in
      ap shape_of (record_tree j h) ∙ sym (renamed_shape (global_number part) (faces_in (part_dimension part)) (stored_tree part j) (stored-long j h))
      ∙ ap shape_of (sym (tree_core j h)) ∙ ap (λ (n : ℕ). shape_of (part_core part n)) (sym (tree_number j h)))
      (λ e. ap shape_of (sym (ghost_core_lem j (omega tests) l)))

  -- ---- neighbours

  -- a local index that leads to a number below K is that of a record
  index_number : (i : ℕ) → global_number part i < no_tree → (i < count + part_ghost_count part) × (number_in part count i ≡ global_number part i)
  unfolding global_number
  index_number i h =
      let c = k.counted in
      either (eqb i unused)
      (λ e. absurd (omega (arith, rw e at h)))
      (λ e.
      either (ltb i (part_count part))
      (λ a. let l : i < count = omega tests in (omega arith, rw (e, a) (tree-same i l)))
      (λ a.
      either (ltb i (part_count part + ghosts))
      (λ b. let l : count ≤ i = omega tests in (omega tests, rw (e, a, b, ← c) (ghost-number i l)))
      (λ b. absurd (omega (arith, rw (e, a, b) at h)))))

  index-small : (i : ℕ) → global_number part i < 4294967296
  unfolding global_number stored_tree stored_ghost
  index-small i =
      either (eqb i unused) (λ e. rw e (omega arith))
      (λ e. rw e
      (either (ltb i (part_count part)) (λ a. rw a (number_small _ (bytes_piece part (tree_place i) core_size k.bytes)))
      (λ a. rw a
      (either (ltb i (part_count part + ghosts)) (λ b. rw b (number_small _ (bytes_piece part (ghost_place (part_count part) (i - part_count part)) core_size k.bytes)))
      (λ b. rw b (omega arith))))))

  -- what stands across a face of tree i: the record at the index that it stores
  pub tree_next : (i f : ℕ) → i < count → f < face_count (shape_of (part_core part (part_first part + i)))
      → (neighbour_of (record_in part count i) f < count + part_ghost_count part)
      × (number_in part count (neighbour_of (record_in part count i) f) ≡ neighbour_of (part_core part (part_first part + i)) f)
  unfolding global_tree
  tree_next i f h l =
      let j : ℕ = neighbour_of (record_in part count i) f in
      let six : f < 6 = omega (arith, count_six (shape_of (part_core part (first + i)))) in
      let to : neighbour_of (part_core part (first + i)) f ≡ global_number part j =
      ap (λ (r : List ℕ). neighbour_of r f) (tree_core i h)
      ∙ renamed_neighbour (global_number part) (faces_in (part_dimension part)) (stored_tree part i) (stored-long i h) f six (index-small (neighbour_of (stored_tree part i) f))
      ∙ ap (λ (r : List ℕ). global_number part (neighbour_of r f)) (sym (record_tree i h)) in
      let has = held_below_lem _ (part_held part old p sound (first + i) (tree_held i h) f l (tree-own i h)) in
      let low : global_number part j < no_tree = omega (arith, has.1) in
      let n = index_number j low in
      (n.0, n.1 ∙ sym to)

  -- the neighbour across a face of the record at index j, as the part stores it
  pub across_is : (j f : ℕ) → j < count + part_ghost_count part → f < face_count (shape_of (part_core part (number_in part count j)))
      → across_at part count j f ≡ neighbour_of (part_core part (number_in part count j)) f
  unfolding across_at
  across_is j f l h =
      either (ltb j count)
      (λ e.
      let own = tree_number j (ltb-true j count e) in
      rw (e, own) (tree_next j f (ltb-true j count e) (rw own at h)).1)
      (λ e. rw (e, ghost_core_lem j (omega tests) l))

  -- so it can be read
  pub at_face : (j f : ℕ) → j < count + part_ghost_count part → f < face_count (shape_of (part_core part (number_in part count j))) → AtFace part count j f
  at_face j f l h =
      record {
        face = omega (arith, count_six (shape_of (part_core part (number_in part count j))));
        here = place_fits j l;
        there = λ e. place_fits (neighbour_of (record_in part count j) f) (tree_next j f e (rw (tree_number j e) at h)).0;
      }
