-- The slots of a sound area: how long they are, what they hold, and how long the part is that they make.
use Prim.Native.Nat.{ℕ, ◌+◌, ◌*◌, ◌≤◌, ◌<◌}
use native.Mathlib.Omega.{arith}
use mathlib.Core.Path.{◌≡◌, refl, ap, ◌∙◌}
use mathlib.Core.Bool.{true, false, cond, ◌&&◌}
use mathlib.Core.List.{List}
use lib.Dec.{eqb}
use lib.ListN.{length, length-append}
use borrow.Author.Tests.{eqb-true, eq-eqb}
use Rattle.encoding.specs.Below.{any_below}
use Rattle.encoding.specs.Pieces.{Bytes}
use Rattle.encoding.proofs.Below.{and_fst, and_snd, all_at, any_intro}
use Rattle.encoding.proofs.Pieces.{piece_length}
use Rattle.offsets.specs.Limits.{max_trees}
use Rattle.offsets.specs.Table.{ranks, first_tree, end_tree, tree_count, holds}
use Rattle.offsets.proofs.Tables.{count_add}
use Rattle.pattern.specs.Sender.{sender}
use Rattle.pattern.specs.Sets.{gets_from}
use Rattle.pattern.proofs.Senders.{sender_lt}
use Rattle.records.specs.Shape.{face_count, faces_in}
use Rattle.records.specs.Record.{core_size, tree_size, number_of, shape_of, neighbour_of, in_form}
use Rattle.records.proofs.Shapes.{faces_six}
use Rattle.part.specs.Layout.{part_size}
use Rattle.part.specs.Cut.{renamed}
use Rattle.part.specs.Means.{in_range, is_local, ghost_is, held}
use Rattle.part.proofs.Records.{rows_length, header_length}
use Rattle.part.proofs.Views.{TreeView, view_trees, core_tree, tree_link_held}
use Rattle.area.specs.Layout.{ghost_bound, slots_place, ghost_slots_place}
use Rattle.area.specs.Area.{area_dimension, area_k, area_p, area_rank, area_count, area_ghosts, area_old, area_new, area_first, heard, tree_slot, tree_slot_core, ghost_slot, due_heard, tree_slot_sound, area_bound, area_sound}
use Rattle.area.specs.Close.{all_heard, join_index, joined_part}
use Rattle.area.specs.Means.{words_end, HeaderHolds}
use Rattle.area.proofs.Headers.{slots_place_is, ghosts_place_is, size_long}
use Rattle.area.proofs.Ranges.{bound_read, range_trees}
use Rattle.area.proofs.Soundness.{sound_holds}
use Rattle.area_theorems.proofs.Again.{area_parts}
use Rattle.area_theorems.proofs.Joined.{slots_length}
use Rattle.area_theorems.proofs.Zones.{few_trees}
use Rattle.close_check.specs.Means.{join_sound}

-- ---- their lengths

pub renamed_length : (rename : ℕ → ℕ) (F : ℕ) (r : List ℕ) → length r ≡ tree_size → length (renamed rename F r) ≡ tree_size
unfolding renamed
renamed_length rename F r l = rows_length _ F r (omega arith) ∙ l

module _ (a : List ℕ) (sound : area_sound a ≡ true) where
  pub slots_long : words_end (area_p a) + tree_size * area_count a + core_size * area_bound a ≤ length a
  slots_long = size_long a (area_parts a sound).header.long

  pub slot_long : (i : ℕ) → i < area_count a → length (tree_slot a i) ≡ tree_size
  unfolding tree_slot
  slot_long i h = piece_length a (slots_place (area_p a) + tree_size * i) tree_size (omega (arith, slots_long, slots_place_is (area_p a)))

  pub ghost_long : (j : ℕ) → j < area_ghosts a → length (ghost_slot a j) ≡ core_size
  unfolding ghost_slot
  ghost_long j h =
      piece_length a (ghost_slots_place (area_p a) (area_count a) + core_size * j) core_size (omega (arith, slots_long, ghosts_place_is (area_p a) (area_count a), (area_parts a sound).fit))

  pub tree_long : (i : ℕ) → i < area_count a → length (renamed (join_index a) (faces_in (area_dimension a)) (tree_slot a i)) ≡ tree_size
  tree_long i h = renamed_length (join_index a) (faces_in (area_dimension a)) (tree_slot a i) (slot_long i h)

  -- the part has n trees and the ghosts held
  pub joined_length : length (joined_part a) ≡ part_size (area_count a) (area_ghosts a)
  unfolding joined_part
  joined_length =
      rw (
        length-append,
        header_length _ _ _ _ _ _ _,
        length-append,
        slots_length (λ i. renamed (join_index a) (faces_in (area_dimension a)) (tree_slot a i)) tree_size (area_count a) tree_long,
        slots_length (ghost_slot a) core_size (area_ghosts a) ghost_long,
      )

-- ---- the range, and what is held

module _ (a : List ℕ) (b : Bytes a) (sound : area_sound a ≡ true) where
  header : HeaderHolds a
  header = sound_holds a sound b

  -- trees and ghosts are few
  pub few_held : area_first a + area_count a + area_ghosts a ≤ 7 * max_trees
  unfolding area_bound
  few_held =
      let bound = bound_read (area_dimension a) (area_count a) refl (faces_six (area_dimension a)) in
      let fit : area_ghosts a ≤ ghost_bound (faces_in (area_dimension a)) (area_count a) = (area_parts a sound).fit in
      omega (arith, range_trees a header, few_trees _ _ header.tables, bound.0, bound.1)

  -- one past the last tree of the range
  range_end : area_first a + area_count a ≡ end_tree (area_new a) (area_rank a)
  unfolding area_first
  range_end =
      ap (λ (m : ℕ). first_tree (area_new a) (area_rank a) + m) header.count_is
      ∙ count_add (area_new a) header.tables.new_bytes header.tables.new_ranks header.tables.new_valid (area_rank a) (omega (arith, header.rank_below, header.ranks_are, header.tables.same_ranks))

  pub range_is : (k : ℕ) → in_range (area_first a) (area_first a + area_count a) k ≡ holds (area_new a) (area_rank a) k
  unfolding in_range holds area_first
  range_is k = rw range_end

  -- a number held outside the range is a ghost's
  pub ghost_held : (k : ℕ) → held (area_first a) (area_count a) (area_ghosts a) (tree_slot_core a) (ghost_slot a) k ≡ true
      → in_range (area_first a) (area_first a + area_count a) k ≡ false → any_below (area_ghosts a) (λ j. eqb (number_of (ghost_slot a j)) k) ≡ true
  unfolding held is_local in_range ghost_is
  ghost_held k e o = rw o at e

  -- ---- trees whose senders are all heard are in form and have their numbers

  module _ (all : all_heard a ≡ true) where
    tree-heard : (i : ℕ) → i < area_count a → due_heard a i ≡ true
    unfolding all_heard due_heard area_first gets_from
    tree-heard i h =
        let rank-old : area_rank a < ranks (area_old a) = omega (arith, header.ranks_are, header.rank_below) in
        let k : ℕ = first_tree (area_new a) (area_rank a) + i in
        let s : ℕ = sender (area_old a) k (area_rank a) in
        let l : s < ranks (area_old a) = sender_lt (area_old a) (area_new a) header.tables k (area_rank a) (omega (arith, range_trees a header)) rank-old in
        let due : gets_from (area_old a) (area_new a) (area_rank a) s ≡ true =
        any_intro (tree_count (area_new a) (area_rank a)) (λ m. eqb (sender (area_old a) (first_tree (area_new a) (area_rank a) + m) (area_rank a)) s) i (omega (arith, header.count_is)) (eq-eqb s s refl) in
        rw due at (all_at (area_p a) (λ m. cond (gets_from (area_old a) (area_new a) (area_rank a) m) (heard a m) true) all s (omega (arith, header.ranks_are)))

    pub tree_slot_lem : (i : ℕ) → i < area_count a → (in_form (area_first a + i) (tree_slot_core a i) && eqb (number_of (tree_slot_core a i)) (area_first a + i)) ≡ true
    unfolding tree_slot_sound
    tree_slot_lem i h = rw (tree-heard i h) at ((area_parts a sound).tree i h)

    pub tree_form : (i : ℕ) → i < area_count a → in_form (area_first a + i) (tree_slot_core a i) ≡ true
    tree_form i h = and_fst (in_form (area_first a + i) (tree_slot_core a i)) (eqb (number_of (tree_slot_core a i)) (area_first a + i)) (tree_slot_lem i h)

    pub tree_number : (i : ℕ) → i < area_count a → number_of (tree_slot_core a i) ≡ area_first a + i
    tree_number i h = eqb-true _ _ (and_snd (in_form (area_first a + i) (tree_slot_core a i)) (eqb (number_of (tree_slot_core a i)) (area_first a + i)) (tree_slot_lem i h))

-- ---- where the records are those of a sound part

module _ (a : List ℕ) (joined : join_sound a ≡ true) where
  pub tree_view : (i : ℕ) → i < area_count a → TreeView (area_first a) (area_count a) (area_ghosts a) (tree_slot_core a) (ghost_slot a) (area_dimension a) i
  unfolding join_sound
  tree_view = view_trees (area_first a) (area_count a) (area_ghosts a) (tree_slot_core a) (ghost_slot a) (area_dimension a) (area_k a) joined

  -- the neighbour across a used face is held
  pub neighbour_held : (i : ℕ) → i < area_count a → (f : ℕ) → f < face_count (shape_of (tree_slot_core a i))
      → held (area_first a) (area_count a) (area_ghosts a) (tree_slot_core a) (ghost_slot a) (neighbour_of (tree_slot_core a i) f) ≡ true
  neighbour_held i h f l =
      rw (core_tree (area_first a) (area_count a) (area_ghosts a) (tree_slot_core a) (ghost_slot a) i h)
      at (tree_link_held (area_first a) (area_count a) (area_ghosts a) (tree_slot_core a) (ghost_slot a) (area_first a + i) f ((tree_view i h).links f l))
