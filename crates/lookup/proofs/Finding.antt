-- The search for a record by its number finds what the definition says.
use Prim.Native.Nat.{ℕ, suc, ◌+◌, ◌-◌, ◌*◌, ◌/◌, ◌≤◌, ◌<◌}
use native.Mathlib.Nat.{mul-div-le, mul-le-mul_left, mul-suc, add-sub_cancel_left}
use native.Mathlib.Omega.{arith}
use mathlib.Core.Path.{◌≡◌, sym, ◌∙◌}
use mathlib.Core.Bool.{true, false}
use mathlib.Core.List.{List, []}
use lib.ListN.{length, take, drop}
use borrow.Author.Tests.{eq-eqb, ne_eqb}
use Rattle.encoding.specs.Below.{any_below, least_below}
use Rattle.encoding.specs.Numbers.{u32_at}
use Rattle.encoding.specs.Pieces.{piece}
use Rattle.encoding.proofs.Below.{either, any_false, least_none, least_lt, least_is}
use Rattle.records.specs.Record.{core_size, tree_size}
use Rattle.lookup.specs.declared.Found.{Found}
use Rattle.lookup.specs.Lookup.{has_number, found, first_place, first_with, lookup_record, found_at, found_record, found_piece}
use Rattle.part.proofs.Ranges.{none_next}

module _ (size : ℕ) (bs : List ℕ) where
  -- a whole record is in the slice
  pub whole_fits : (i : ℕ) → i < length bs / size → size * i + size ≤ length bs
  whole_fits i h = omega (arith, mul-div-le (length bs) size, mul-suc size i, mul-le-mul_left {m = suc i} {n = length bs / size} size h)

  module _ (number i : ℕ) where
    -- one more record without the number
    pub none_more : {v : ℕ} → any_below i (has_number size bs number) ≡ false → v ≡ u32_at bs (size * i) → (v ≡ number → ⊥) → any_below (i + 1) (has_number size bs number) ≡ false
    unfolding has_number
    none_more a e h = none_next i (has_number size bs number) a (rw (← e) (ne_eqb _ _ h))

    -- the first with the number
    pub first_found : {v : ℕ} → i < length bs / size → any_below i (has_number size bs number) ≡ false → v ≡ u32_at bs (size * i) → v ≡ number → i ≡ least_below (length bs / size) (has_number size bs number)
    unfolding has_number
    first_found h a e n = sym (least_is (length bs / size) (has_number size bs number) i h (eq-eqb _ _ (sym e ∙ n)) (any_false i (has_number size bs number) a))

    -- none has it
    pub none_found : i ≤ length bs / size → length bs / size ≤ i → any_below i (has_number size bs number) ≡ false → found size bs number ≡ false
    unfolding found
    none_found h l a =
        let e : i ≡ length bs / size = omega arith in
        rw e at a

    -- an index below the number of records is one that was found, and where it is
    pub some_there : i < length bs / size → i ≡ least_below (length bs / size) (has_number size bs number) → (found size bs number ≡ true) × (size * i ≡ first_place size bs number)
    unfolding found first_place
    some_there h least =
        let there : any_below (length bs / size) (has_number size bs number) ≡ true =
        either (any_below (length bs / size) (has_number size bs number)) (λ p. p)
        (λ p. absurd (omega (arith, least_none (length bs / size) (has_number size bs number) p))) in
        (there, rw (← least))

  -- the first with the number is a whole record of the slice
  pub first_inside : (number : ℕ) → found size bs number ≡ true → first_place size bs number + size ≤ length bs
  unfolding found first_place
  first_inside number h = whole_fits _ (least_lt (length bs / size) (has_number size bs number) h)

module _ (trees ghosts : List ℕ) (number : ℕ) where
  -- a tree has the number
  pub tree_place_lem : {at : ℕ} → found tree_size trees number ≡ true → at ≡ first_place tree_size trees number → found_at 1 at ≡ found_record trees ghosts number
  unfolding found_record
  tree_place_lem t e = rw (t, e)

  module _ (past : found tree_size trees number ≡ false) where
    -- no tree, and a ghost
    pub ghost_place_lem : {at : ℕ} → found core_size ghosts number ≡ true → at ≡ first_place core_size ghosts number → found_at 2 at ≡ found_record trees ghosts number
    unfolding found_record
    ghost_place_lem t e = rw (past, t, e)

    -- neither
    pub none_place : found core_size ghosts number ≡ false → found_at 0 0 ≡ found_record trees ghosts number
    unfolding found_record
    none_place t = rw (past, t)

  -- the record that the lookup lends is the piece that the place names
  pub found_is : found_piece trees ghosts (found_record trees ghosts number) ≡ lookup_record trees ghosts number
  unfolding found_record found_piece lookup_record first_with
  found_is =
      either (found tree_size trees number) (λ t. rw t)
      (λ t. either (found core_size ghosts number) (λ g. rw (t, g)) (λ g. rw (t, g)))

  -- a tree's place is that of a whole tree record, a ghost's that of a whole core record
  pub tree_inside : (found_record trees ghosts number).which ≡ 1 → (found_record trees ghosts number).offset + tree_size ≤ length trees
  unfolding found_record
  tree_inside h =
      either (found tree_size trees number) (λ t. rw t (first_inside tree_size trees number t))
      (λ t. either (found core_size ghosts number) (λ g. let w : 2 ≡ 1 = rw (t, g) at h in absurd (omega (arith, w))) (λ g. let w : 0 ≡ 1 = rw (t, g) at h in absurd (omega (arith, w))))

  pub ghost_inside : (found_record trees ghosts number).which ≡ 2 → (found_record trees ghosts number).offset + core_size ≤ length ghosts
  unfolding found_record
  ghost_inside h =
      either (found tree_size trees number) (λ t. let w : 1 ≡ 2 = rw t at h in absurd (omega (arith, w)))
      (λ t. either (found core_size ghosts number) (λ g. rw (t, g) (first_inside core_size ghosts number g)) (λ g. let w : 0 ≡ 2 = rw (t, g) at h in absurd (omega (arith, w))))

  -- the part of a slice that the code lends
  module _ (r : Found) (place : r ≡ found_record trees ghosts number) where
    pub named_lent : found_piece trees ghosts r ≡ lookup_record trees ghosts number
    named_lent = rw place found_is

    pub tree_fits_lem : r.which ≡ 1 → r.offset + tree_size ≤ length trees
    tree_fits_lem h = rw place (tree_inside (rw place at h))

    pub tree_lent : r.which ≡ 1 → take (r.offset + tree_size - r.offset) (drop r.offset trees) ≡ lookup_record trees ghosts number
    unfolding found_piece piece
    tree_lent h = rw (← named_lent, h, add-sub_cancel_left r.offset tree_size)

    pub ghost_fits : r.which ≡ 2 → r.offset + core_size ≤ length ghosts
    ghost_fits h = rw place (ghost_inside (rw place at h))

    pub ghost_lent : r.which ≡ 2 → take (r.offset + core_size - r.offset) (drop r.offset ghosts) ≡ lookup_record trees ghosts number
    unfolding found_piece piece
    ghost_lent h = rw (← named_lent, h, add-sub_cancel_left r.offset core_size)

    pub none_lent : (r.which ≡ 1 → ⊥) → (r.which ≡ 2 → ⊥) → [] ≡ lookup_record trees ghosts number
    unfolding found_piece
    none_lent h g = rw (← named_lent, ne_eqb _ _ h, ne_eqb _ _ g)
