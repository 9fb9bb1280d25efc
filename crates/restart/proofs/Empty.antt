-- The part of a rank without trees.
use Prim.Native.Nat.{ℕ, zero, suc, ◌+◌, ◌≤◌, ◌<◌}
use native.Mathlib.Omega.{arith}
use mathlib.Core.Path.{◌≡◌, refl, sym, ap, ◌∙◌}
use mathlib.Core.Bool.{Bool, true, false, and-false}
use mathlib.Core.List.{List, [], ◌++◌, append-nil}
use lib.Dec.{ltb, eqb}
use lib.ListN.{length, drop}
use lib.Seq.{take_all, take-append-le, drop-append-add}
use borrow.Author.Tests.{eqb-true, eq-eqb, lt-leb}
use Rattle.encoding.specs.Below.{all_below, kept_below}
use Rattle.encoding.specs.Numbers.{le_bytes, le_at, u32_at}
use Rattle.encoding.specs.Pieces.{piece, Bytes}
use Rattle.encoding.proofs.Below.{tests, either, and_intro, all_intro, any_none, count_none}
use Rattle.encoding.proofs.Numbers.{bytes_length, value_bytes}
use Rattle.offsets.specs.Table.{ranks, trees, first_tree, end_tree, tree_count, holds}
use Rattle.offsets.proofs.Tables.{count_add}
use Rattle.records.specs.Shape.{face_count}
use Rattle.records.specs.Record.{shape_of, neighbour_of}
use Rattle.mesh.specs.Mesh.{dimension_ok, mesh_dimension, mesh_trees, mesh_core}
use Rattle.part.specs.Layout.{part_size, header_bytes}
use Rattle.part.specs.Ghosts.{is_ghost, ghosts_of, ghost_position}
use Rattle.part.specs.Cut.{cores_of, part_trees, part_ghosts, ghost_count, cut_part}
use Rattle.part.specs.View.{records_hold, ghosts_exact, links_hold}
use Rattle.part.specs.Part.{part_dimension, part_k, part_first, part_count, part_ghost_count, view_of, part_header_sound, part_sound}
use Rattle.restart.specs.Restart.{empty_part}
use Rattle.restart.specs.Theorems.{EmptyParts}
use Rattle.restart.proofs.Checks.{EmptyKnown, empty_known}
use Rattle.restart.proofs.Ranges.{RangeFits, range_fits_lem}
use Rattle.restart.proofs.Writing.{empty_length}

-- ---- reading a header

word_first : (v : ℕ) (b : List ℕ) → v < 4294967296 → u32_at (le_bytes 4 v ++ b) 0 ≡ v
unfolding le_at piece
word_first v b h =
    let l : 4 ≤ length (le_bytes 4 v) = omega (arith, bytes_length 4 v) in
    rw (take-append-le 4 (le_bytes 4 v) b l, take_all 4 (le_bytes 4 v) (omega (arith, bytes_length 4 v))) (value_bytes 4 v h)

word_next : (v off : ℕ) (b : List ℕ) → u32_at (le_bytes 4 v ++ b) (4 + off) ≡ u32_at b off
unfolding le_at piece
word_next v off b =
    let d : drop (length (le_bytes 4 v) + off) (le_bytes 4 v ++ b) ≡ drop off b = drop-append-add (le_bytes 4 v) b off in
    rw (rw (bytes_length 4 v) at d)

word_only : (v : ℕ) → v < 4294967296 → u32_at (le_bytes 4 v) 0 ≡ v
word_only v h = ap (λ (l : List ℕ). u32_at l 0) (sym (append-nil (le_bytes 4 v))) ∙ word_first v [] h

none_all : (n : ℕ) (f : ℕ → Bool) → n ≡ 0 → all_below n f ≡ true
none_all n f e = all_intro n f (λ i h. absurd (omega arith))

module _ (t : List ℕ) (p d : ℕ) (bytes : Bytes t) (known : EmptyKnown t p d) where
  fits : RangeFits t p
  fits = range_fits_lem t p bytes known.rank_is

  none : tree_count t p ≡ 0
  none = eqb-true (tree_count t p) 0 known.no_trees

  begins : first_tree t p ≡ end_tree t p
  begins = omega (arith, count_add t bytes known.rank_is.counted known.rank_is.checked p known.rank_is.below, none)

  -- ---- it is cut out of every mesh

  holds-none : (k : ℕ) → holds t p k ≡ false
  unfolding holds
  holds-none k =
      either (ltb k (end_tree t p))
      (λ e. rw (lt-leb (first_tree t p) k (omega (tests, begins))))
      (λ e. rw (e, and-false))

  ghost-none : (core : ℕ → List ℕ) (k : ℕ) → is_ghost core t p k ≡ false
  unfolding is_ghost
  ghost-none core k =
      rw (any_none (face_count (shape_of (core k))) (λ f. holds t p (neighbour_of (core k) f)) (λ f h. holds-none (neighbour_of (core k) f)), and-false)

  kept-none : (n : ℕ) (f : ℕ → Bool) → ((k : ℕ) → f k ≡ false) → kept_below n f ≡ []
  unfolding kept_below
  kept-none zero f h = refl
  kept-none (suc n) f h = rw (kept-none n f h, h n)

  module _ (mesh : List ℕ) where
    ghosts_none : ghost_count mesh t p ≡ 0
    unfolding ghost_count ghost_position
    ghosts_none = count_none (mesh_trees mesh) (is_ghost (mesh_core mesh) t p) (λ k h. ghost-none (mesh_core mesh) k)

    cores-none : part_ghosts mesh t p (mesh_trees mesh) ≡ []
    unfolding part_ghosts ghosts_of cores_of
    cores-none = rw (kept-none (mesh_trees mesh) (is_ghost (mesh_core mesh) t p) (ghost-none (mesh_core mesh)))

    trees-none : part_trees mesh t p 0 ≡ []
    unfolding part_trees
    trees-none = refl

    empty-cut : mesh_trees mesh ≡ trees t → mesh_dimension mesh ≡ d → cut_part mesh t p ≡ empty_part t p d
    unfolding cut_part empty_part
    empty-cut k e = rw (ghosts_none, cores-none, none, trees-none, k, e) (append-nil (header_bytes d (trees t) (ranks t) p (first_tree t p) 0 0))

  -- ---- it is sound

  abbrev E : List ℕ
  E = empty_part t p d

  dimension_small : (d : ℕ) → dimension_ok d ≡ true → d < 4294967296
  unfolding dimension_ok
  dimension_small d h = either (eqb d 2) (λ e. omega tests) (λ e. let g : eqb d 3 ≡ true = rw e at h in omega tests)

  read-0 : part_dimension E ≡ d
  unfolding part_dimension empty_part header_bytes
  read-0 = word_first d _ (dimension_small d known.dimension_fits)

  read-4 : part_k E ≡ trees t
  unfolding part_k empty_part header_bytes
  read-4 = word_next d 0 _ ∙ word_first (trees t) _ (omega (arith, fits.most))

  read-8 : u32_at E 8 ≡ ranks t
  unfolding empty_part header_bytes
  read-8 = word_next d 4 _ ∙ word_next (trees t) 0 _ ∙ word_first (ranks t) _ (omega (arith, fits.few))

  read-12 : u32_at E 12 ≡ p
  unfolding empty_part header_bytes
  read-12 = word_next d 8 _ ∙ word_next (trees t) 4 _ ∙ word_next (ranks t) 0 _ ∙ word_first p _ (omega (arith, fits.few, known.rank_is.below))

  read-16 : part_first E ≡ first_tree t p
  unfolding part_first empty_part header_bytes
  read-16 =
      word_next d 12 _ ∙ word_next (trees t) 8 _ ∙ word_next (ranks t) 4 _ ∙ word_next p 0 _
      ∙ word_first (first_tree t p) _ (omega (arith, fits.most, fits.ends, fits.rises))

  read-20 : part_count E ≡ 0
  unfolding part_count empty_part header_bytes
  read-20 =
      word_next d 16 _ ∙ word_next (trees t) 12 _ ∙ word_next (ranks t) 8 _ ∙ word_next p 4 _ ∙ word_next (first_tree t p) 0 _ ∙ word_first 0 _ (omega arith)

  read-24 : part_ghost_count E ≡ 0
  unfolding part_ghost_count empty_part header_bytes
  read-24 =
      word_next d 20 _ ∙ word_next (trees t) 16 _ ∙ word_next (ranks t) 12 _ ∙ word_next p 8 _ ∙ word_next (first_tree t p) 4 _ ∙ word_next 0 0 _
      ∙ word_first 0 _ (omega arith)

  read-28 : u32_at E 28 ≡ 0
  unfolding empty_part header_bytes
  read-28 =
      word_next d 24 _ ∙ word_next (trees t) 20 _ ∙ word_next (ranks t) 16 _ ∙ word_next p 12 _ ∙ word_next (first_tree t p) 8 _ ∙ word_next 0 4 _ ∙ word_next 0 0 _
      ∙ word_only 0 (omega arith)

  header-sound : part_header_sound E t p ≡ true
  unfolding part_header_sound
  header-sound =
      rw (
        read-0,
        known.dimension_fits,
        eq-eqb (part_k E) (trees t) read-4,
        eq-eqb (u32_at E 8) (ranks t) read-8,
        eq-eqb (u32_at E 12) p read-12,
        eq-eqb (part_first E) (first_tree t p) read-16,
        eq-eqb (part_count E) (tree_count t p) (read-20 ∙ sym none),
        eq-eqb (u32_at E 28) 0 read-28,
      )

  length-exact : eqb (length E) (part_size (part_count E) (part_ghost_count E)) ≡ true
  length-exact = eq-eqb (length E) (part_size (part_count E) (part_ghost_count E)) (omega (arith, empty_length t p d, read-20, read-24))

  records-none : records_hold (view_of E) ≡ true
  unfolding records_hold ghosts_exact links_hold
  records-none =
      and_intro _ _
      (and_intro _ _ (and_intro _ _ (none_all (part_count E) _ read-20) (none_all (part_ghost_count E) _ read-24)) (and_intro _ _ (none_all (part_ghost_count E) _ read-24) (none_all (part_count E) _ read-20)))
      (and_intro _ _ (and_intro _ _ (none_all (part_count E) _ read-20) (none_all (part_ghost_count E) _ read-24)) (none_all (part_ghost_count E) _ read-24))

  empty-sound : part_sound E t p ≡ true
  unfolding part_sound
  empty-sound = rw (header-sound, length-exact) records-none

pub empty_parts : EmptyParts
empty_parts table rank dimension bytes e =
    let k = empty_known table rank dimension e in
    record { sound = empty-sound table rank dimension bytes k; cut = empty-cut table rank dimension bytes k }
