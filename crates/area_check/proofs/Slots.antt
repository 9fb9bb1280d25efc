-- The slots of an area, range by range: the code's tests are those of the definition.
use Prim.Native.Nat.{ℕ, zero, suc, ◌+◌, ◌-◌, ◌*◌, ◌≤◌, ◌<◌}
use native.Mathlib.Nat.{add_assoc, mul-zero, mul-suc, mul-le-mul_left}
use native.Mathlib.Omega.{arith}
use mathlib.Core.Path.{◌≡◌, refl, sym, ap, ap₂, ◌∙◌}
use mathlib.Core.Bool.{Bool, true, false, ◌&&◌, and-false}
use mathlib.Core.List.{List}
use lib.Dec.{eqb}
use lib.ListN.{length}
use borrow.Author.Tests.{eqb-true, eqb-false, lt-ltb, le-ltb}
use Rattle.encoding.specs.Below.{all_below, count_below, sum_below}
use Rattle.encoding.specs.Pieces.{piece}
use Rattle.encoding.specs.Words.{zero_at, all_zero}
use Rattle.encoding.proofs.Below.{either, iff_eq, all_at, all_intro, all_same, all_add, sum_same, sum_mono, count_same, count_none, count_by_value}
use Rattle.encoding.proofs.Pieces.{piece_length, piece_at}
use Rattle.offsets.specs.Table.{ranks, trees, first_tree, end_tree, holds}
use Rattle.pattern.specs.Sender.{sender}
use Rattle.pattern.proofs.Counting.{range_true}
use Rattle.pattern.proofs.Senders.{holds_in, sender_lt, sends_true, sends_in}
use Rattle.pattern.proofs.Sets.{one_range, sent_in}
use Rattle.records.specs.Record.{core_size, tree_size, number_of, in_form}
use Rattle.message.specs.Layout.{after_last}
use Rattle.area.specs.Layout.{slots_place, ghost_slots_place}
use Rattle.area.specs.Area.{area_k, area_p, area_rank, area_count, area_ghosts, area_old, area_new, area_first, heard, tree_slot, tree_slot_core, ghost_slot, due_heard, tree_slot_sound, filled_slots, ghost_held_sound, area_bound, ghost_slot_sound}
use Rattle.area.proofs.Headers.{slots_place_is, ghosts_place_is}
use Rattle.area.proofs.Ranges.{rank_below, range_end, range_trees, sender_below, from_within, from_count_lem}
use Rattle.area.proofs.Soundness.{filled_few}
use Rattle.area.specs.Means.{HeaderHolds, from_first, from_count, from_place, core_at}
use Rattle.area_check.specs.Means.{slot_held, range_sound, range_filled, ghost_held_at}

-- ---- zeros in a row

-- all of n rows of the same size
pub rows : (size n : ℕ) (f : ℕ → Bool) → all_below (size * n) f ≡ all_below n (λ j. all_below size (λ i. f (size * j + i)))
unfolding all_below
rows size zero f = rw mul-zero
rows size (suc n) f = rw (mul-suc, all_add (size * n) size f, rows size n f)

module _ (a : List ℕ) where
  zero-piece : (at m : ℕ) → at + m ≤ length a → all_zero (piece a at m) ≡ all_below m (λ i. zero_at a (at + i))
  unfolding all_zero
  zero-piece at m h =
      ap (λ (n : ℕ). all_below n (zero_at (piece a at m))) (piece_length a at m h)
      ∙ all_same m (zero_at (piece a at m)) (λ i. zero_at a (at + i)) (λ i l. ap (λ (x : ℕ). eqb x 0) (piece_at a at m i l))

  -- a piece is zero where each of its rows is
  pub zero_rows : (at size n : ℕ) → at + size * n ≤ length a → all_zero (piece a at (size * n)) ≡ all_below n (λ j. all_zero (piece a (at + size * j) size))
  zero_rows at size n h =
      let row : (j : ℕ) → j < n → all_below size (λ i. zero_at a (at + (size * j + i))) ≡ all_zero (piece a (at + size * j) size) =
      λ j l.
      let m : size * suc j ≤ size * n = mul-le-mul_left {m = suc j} {n = n} size l in
      let k : at + size * j + size ≤ length a = omega (arith, mul-suc size j) in
      all_same size (λ i. zero_at a (at + (size * j + i))) (λ i. zero_at a (at + size * j + i)) (λ i p. ap (zero_at a) (sym (add_assoc at (size * j) i)))
      ∙ sym (zero-piece (at + size * j) size k) in
      zero-piece at (size * n) h ∙ rows size n (λ i. zero_at a (at + i))
      ∙ all_same n (λ j. all_below size (λ i. zero_at a (at + (size * j + i)))) (λ j. all_zero (piece a (at + size * j) size)) row

-- ---- the tree slots

module _ (a : List ℕ) where
  slot_held_lem : (i : ℕ) → due_heard a i ≡ true → tree_slot_sound a i ≡ (in_form (area_first a + i) (tree_slot_core a i) && eqb (number_of (tree_slot_core a i)) (area_first a + i))
  unfolding tree_slot_sound
  slot_held_lem i e = rw e

  slot-zero : (i : ℕ) → due_heard a i ≡ false → tree_slot_sound a i ≡ all_zero (tree_slot a i)
  unfolding tree_slot_sound
  slot-zero i e = rw e

  held_at : (i : ℕ) {at k : ℕ} → at ≡ slots_place (area_p a) + tree_size * i → k ≡ area_first a + i → slot_held a at k ≡ (in_form (area_first a + i) (tree_slot_core a i) && eqb (number_of (tree_slot_core a i)) (area_first a + i))
  unfolding slot_held tree_slot_core
  held_at i e d = rw (e, d)

  zero-at-slot : (i : ℕ) {at : ℕ} → at ≡ slots_place (area_p a) + tree_size * i → all_zero (piece a at tree_size) ≡ all_zero (tree_slot a i)
  unfolding tree_slot
  zero-at-slot i e = rw e

module _ (a : List ℕ) (H : HeaderHolds a) where
  module _ (s : ℕ) (l : s < area_p a) where
    module _ (j : ℕ) (m : j < from_count a s) where
      within : (area_first a ≤ from_first a s) × (from_first a s + from_count a s ≤ area_first a + area_count a)
      within = from_within a H s l (λ z. omega arith)

      -- slot j of those due from s
      from-number : from_first a s + j ≡ area_first a + (from_first a s - area_first a + j)
      from-number = omega (arith, within.0)

      from_at : from_place a s + tree_size * j ≡ slots_place (area_p a) + tree_size * (from_first a s - area_first a + j)
      unfolding from_place
      from_at = omega arith

      from-due : due_heard a (from_first a s - area_first a + j) ≡ heard a s
      unfolding due_heard
      from-due =
          let e : sender (area_old a) (from_first a s + j) (area_rank a) ≡ s =
          (sends_true (area_old a) (area_new a) H.tables s (area_rank a) (from_first a s + j)
          (sent_in (area_old a) (area_new a) H.tables s (area_rank a) (sender_below a H s l) (rank_below a H) (from_first a s + j) (omega arith) (omega arith))).1 in
          ap (λ (k : ℕ). heard a (sender (area_old a) k (area_rank a))) (sym from-number) ∙ ap (heard a) e

    from_fits : eqb (from_count a s) 0 ≡ false → from_place a s + tree_size * from_count a s ≤ length a
    unfolding from_place
    from_fits z = omega (arith, from_within a H s l (eqb-false (from_count a s) 0 z), H.long, slots_place_is (area_p a))

    -- the test of a range is the test of each of its slots
    range-slots : range_sound a s ≡ all_below (from_count a s) (λ j. tree_slot_sound a (from_first a s - area_first a + j))
    unfolding range_sound
    range-slots =
        let slot : ℕ → Bool = λ j. tree_slot_sound a (from_first a s - area_first a + j) in
        either (eqb (from_count a s) 0)
        (λ z. rw z (sym (all_intro (from_count a s) slot (λ j m. absurd (omega (arith, eqb-true (from_count a s) 0 z))))))
        (λ z. rw z
        (either (heard a s)
        (λ h. rw h
        (all_same (from_count a s) (λ j. slot_held a (from_place a s + tree_size * j) (from_first a s + j)) slot
        (λ j m. held_at a (from_first a s - area_first a + j) (from_at j m) (from-number j m) ∙ sym (slot_held_lem a (from_first a s - area_first a + j) (from-due j m ∙ h)))))
        (λ h. rw h
        (zero_rows a (from_place a s) tree_size (from_count a s) (from_fits z)
        ∙ all_same (from_count a s) (λ j. all_zero (piece a (from_place a s + tree_size * j) tree_size)) slot
        (λ j m. zero-at-slot a (from_first a s - area_first a + j) (from_at j m) ∙ sym (slot-zero a (from_first a s - area_first a + j) (from-due j m ∙ h)))))))

  holds-first : (i : ℕ) → i < area_count a → holds (area_new a) (area_rank a) (area_first a + i) ≡ true
  unfolding area_first
  holds-first i l = holds_in (area_new a) (area_rank a) (first_tree (area_new a) (area_rank a) + i) (omega arith) (omega (arith, range_end a H))

  -- all ranges are sound exactly where all slots are
  pub ranges_slots : all_below (area_p a) (range_sound a) ≡ all_below (area_count a) (tree_slot_sound a)
  ranges_slots =
      let T = H.tables in
      let slots : ℕ → Bool = λ s. all_below (from_count a s) (λ j. tree_slot_sound a (from_first a s - area_first a + j)) in
      all_same (area_p a) (range_sound a) slots (λ s l. range-slots s l)
      ∙ iff_eq (all_below (area_p a) slots) (all_below (area_count a) (tree_slot_sound a))
      (λ e. all_intro (area_count a) (tree_slot_sound a)
      (λ i l.
      let k : ℕ = area_first a + i in
      let s : ℕ = sender (area_old a) k (area_rank a) in
      let hk : holds (area_new a) (area_rank a) k ≡ true = holds-first i l in
      let lk : k < trees (area_old a) = omega (arith, range_trees a H) in
      let ls : s < ranks (area_old a) = sender_lt (area_old a) (area_new a) T k (area_rank a) lk (rank_below a H) in
      let r = range_true (from_first a s) (from_first a s + from_count a s) k
      (sym (one_range (area_old a) (area_new a) T s (area_rank a) ls (rank_below a H) k lk) ∙ sends_in (area_old a) (area_new a) T (area_rank a) k hk) in
      let lp : s < area_p a = omega (arith, H.ranks_are) in
      let w = from_within a H s lp (λ z. omega arith) in
      let here : from_first a s - area_first a + (k - from_first a s) ≡ i = omega arith in
      rw here at (all_at (from_count a s) (λ j. tree_slot_sound a (from_first a s - area_first a + j)) (all_at (area_p a) slots e s lp) (k - from_first a s) (omega arith))))
      (λ e. all_intro (area_p a) slots
      (λ s l. all_intro (from_count a s) (λ j. tree_slot_sound a (from_first a s - area_first a + j))
      (λ j m. all_at (area_count a) (tree_slot_sound a) e (from_first a s - area_first a + j) (omega (arith, from_within a H s l (λ z. omega arith))))))

  -- the filled slots due from s
  range-filled : (s : ℕ) → s < area_p a → count_below (area_count a) (λ i. due_heard a i && eqb (sender (area_old a) (area_first a + i) (area_rank a)) s) ≡ range_filled a s
  unfolding range_filled due_heard
  range-filled s l =
      let from : ℕ → ℕ = λ i. sender (area_old a) (area_first a + i) (area_rank a) in
      either (heard a s)
      (λ h. rw h
      (count_same (area_count a) (λ i. heard a (from i) && eqb (from i) s) (λ i. eqb (from i) s)
      (λ i m. either (eqb (from i) s) (λ e. let q : from i ≡ s = eqb-true (from i) s e in rw (q, h)) (λ e. rw (e, and-false (heard a (from i)))))
      ∙ from_count_lem a H s l))
      (λ h. rw h
      (count_none (area_count a) (λ i. heard a (from i) && eqb (from i) s)
      (λ i m. either (eqb (from i) s) (λ e. let q : from i ≡ s = eqb-true (from i) s e in rw (q, h)) (λ e. rw (e, and-false (heard a (from i)))))))

  -- all filled slots, sender by sender
  pub ranges_filled : sum_below (area_p a) (range_filled a) ≡ filled_slots a
  unfolding filled_slots
  ranges_filled =
      sym (count_by_value (area_count a) (area_p a) (due_heard a) (λ i. sender (area_old a) (area_first a + i) (area_rank a))
      (λ i l. omega (arith, sender_lt (area_old a) (area_new a) H.tables (area_first a + i) (area_rank a) (omega (arith, range_trees a H)) (rank_below a H), H.ranks_are))
      ∙ sum_same (area_p a) (λ s. count_below (area_count a) (λ i. due_heard a i && eqb (sender (area_old a) (area_first a + i) (area_rank a)) s)) (range_filled a) range-filled)

  -- those of the first senders are no more than n
  pub filled_few_of : (s : ℕ) → s ≤ area_p a → sum_below s (range_filled a) ≤ area_count a
  filled_few_of s l = omega (arith, sum_mono s (area_p a) (range_filled a) l, ranges_filled, filled_few a)

  -- ---- the ghost slots

  -- a held ghost as the code reads it
  pub ghost_held_is : (j : ℕ) → ghost_held_at a (ghost_slots_place (area_p a) (area_count a)) (area_k a) (first_tree (area_new a) (area_rank a)) (end_tree (area_new a) (area_rank a)) j ≡ ghost_held_sound a j
  unfolding ghost_held_at ghost_held_sound core_at ghost_slot holds after_last
  ghost_held_is j = refl

  core_slot : (i : ℕ) → all_zero (ghost_slot a (area_ghosts a + i)) ≡ all_zero (piece a (ghost_slots_place (area_p a) (area_count a) + core_size * area_ghosts a + core_size * i) core_size)
  unfolding ghost_slot
  core_slot i =
      let e : ghost_slots_place (area_p a) (area_count a) + core_size * (area_ghosts a + i) ≡ ghost_slots_place (area_p a) (area_count a) + core_size * area_ghosts a + core_size * i = omega arith in
      ap (λ (x : ℕ). all_zero (piece a x core_size)) e

  ghosts_fit : area_ghosts a ≤ area_bound a → ghost_slots_place (area_p a) (area_count a) + core_size * area_ghosts a + core_size * (area_bound a - area_ghosts a) ≤ length a
  ghosts_fit h = omega (arith, H.long, ghosts_place_is (area_p a) (area_count a))

  -- the first slots are held ghosts, the others zero
  pub ghosts_split : area_ghosts a ≤ area_bound a
      → all_below (area_bound a) (ghost_slot_sound a)
      ≡ (all_below (area_ghosts a) (ghost_held_sound a) && all_zero (piece a (ghost_slots_place (area_p a) (area_count a) + core_size * area_ghosts a) (core_size * (area_bound a - area_ghosts a))))
  unfolding ghost_slot_sound
  ghosts_split h =
      let at : ℕ = ghost_slots_place (area_p a) (area_count a) in
      let e : area_bound a ≡ area_ghosts a + (area_bound a - area_ghosts a) = omega arith in
      ap (λ (m : ℕ). all_below m (ghost_slot_sound a)) e ∙ all_add (area_ghosts a) (area_bound a - area_ghosts a) (ghost_slot_sound a)
      ∙ ap₂ (λ (x y : Bool). x && y)
      (all_same (area_ghosts a) (ghost_slot_sound a) (ghost_held_sound a) (λ j l. rw (lt-ltb j (area_ghosts a) l)))
      (all_same (area_bound a - area_ghosts a) (λ i. ghost_slot_sound a (area_ghosts a + i)) (λ i. all_zero (piece a (at + core_size * area_ghosts a + core_size * i) core_size)) (λ i l. rw (le-ltb (area_ghosts a + i) (area_ghosts a) (omega arith)) (core_slot i))
      ∙ sym (zero_rows a (at + core_size * area_ghosts a) core_size (area_bound a - area_ghosts a) (ghosts_fit h)))
