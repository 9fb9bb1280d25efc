-- The table's check in one pass gives what validity says.
use Prim.Native.Nat.{ℕ, ◌+◌, ◌-◌, ◌/◌, ◌^◌, ◌≤◌, ◌<◌}
use mathlib.Core.Path.{◌≡◌, refl, sym, ap, ap₂, ◌∙◌}
use mathlib.Core.Bool.{Bool, true, false, cond, ◌&&◌, and-false, and-true}
use mathlib.Core.List.{List}
use native.Mathlib.Numerals.{add-one}
use native.Mathlib.Nat.{le_refl}
use lib.Dec.{leb, ltb, eqb}
use lib.ListN.{length}
use borrow.Author.Tests.{eqb-true, leb-true, le-leb, lt-leb, eq-eqb, ne_eqb}
use Rattle.encoding.specs.Below.{all_below}
use Rattle.encoding.proofs.Below.{tests, and_fst, and_snd, all_same, all_and}
use Rattle.offsets.specs.Limits.{max_ranks, rank_count_ok, tree_count_ok}
use Rattle.offsets.specs.Table.{table_length, ranks, ranks_ok, entry, trees, negative, magnitude, first_tree, end_tree, entries_within, counts_ok, valid}
use Rattle.offsets.proofs.Tables.{ranks_within, trees_within, small_plain, plain_magnitude}
use Rattle.offsets.specs.Means.{entry_ok, entry_ok_at, valid_one_pass}

-- what a table's length tells
pub record TableRanks (t : List ℕ) (P : ℕ) : Type 0 where
  pub low : 1 ≤ P
  pub high : P ≤ max_ranks
  pub size : length t ≡ table_length P

pub ranks_known : (t : List ℕ) → ranks_ok t ≡ true → TableRanks t (ranks t)
unfolding ranks_ok
ranks_known t h =
    let r : (1 ≤ ranks t) × (ranks t ≤ max_ranks) = ranks_within (ranks t) (and_snd (eqb (length t) (table_length (ranks t))) (rank_count_ok (ranks t)) h) in
    record { low = r.0; high = r.1; size = eqb-true (length t) (table_length (ranks t)) (and_fst _ _ h) }

pub ranks_short : (t : List ℕ) → length t < 16 → ranks_ok t ≡ false
unfolding ranks_ok rank_count_ok ranks
ranks_short t h =
    let z : leb 1 (length t / 8 - 1) ≡ false = lt-leb 1 (length t / 8 - 1) (omega tests) in
    rw z (and-false (eqb (length t) (table_length (length t / 8 - 1))))

-- K itself is within K: a count within its limits is no negative number
last_within : (K : ℕ) → tree_count_ok K ≡ true → leb (magnitude K) K ≡ true
last_within K h = rw (plain_magnitude K (small_plain K (trees_within K h).1)) (le-leb K K (le_refl K))

-- tests that are equal where the ones before them pass
after : (X W C D : Bool) → (X ≡ true → (W && C) ≡ D) → (X && W && C) ≡ (X && D)
after true W C D h = h refl
after false W C D h = refl

within_last : (t : List ℕ) → leb (magnitude (trees t)) (trees t) ≡ true
    → (all_below (ranks t) (λ p. leb (magnitude (entry t p)) (trees t)) && leb (magnitude (entry t (ranks t))) (trees t)) ≡ all_below (ranks t) (λ p. leb (magnitude (entry t p)) (trees t))
unfolding trees
within_last t k = rw (k, and-true)

entry_parts : (t : List ℕ) (K p : ℕ)
    → entry_ok_at t K p ≡ (leb (magnitude (entry t p)) K && cond (negative (entry t p)) (ltb (first_tree t p) (end_tree t p)) (leb (first_tree t p) (end_tree t p)))
unfolding entry_ok_at entry_ok first_tree end_tree
entry_parts t K p = refl

within_below : (t : List ℕ) → tree_count_ok (trees t) ≡ true → entries_within t ≡ all_below (ranks t) (λ p. leb (magnitude (entry t p)) (trees t))
unfolding entries_within all_below
within_below t h =
    let k : leb (magnitude (trees t)) (trees t) ≡ true = last_within (trees t) h in
    rw add-one (within_last t k)

pub valid_one_pass_lem : (t : List ℕ) → valid t ≡ valid_one_pass t
unfolding valid valid_one_pass counts_ok
valid_one_pass_lem t =
    after (eqb (entry t 0) 0 && tree_count_ok (trees t)) (entries_within t) (counts_ok t) (all_below (ranks t) (entry_ok_at t (trees t)))
    (λ h. both (and_snd (eqb (entry t 0) 0) (tree_count_ok (trees t)) h))
  where
    within : ℕ → Bool
    within p = leb (magnitude (entry t p)) (trees t)

    counted : ℕ → Bool
    counted p = cond (negative (entry t p)) (ltb (first_tree t p) (end_tree t p)) (leb (first_tree t p) (end_tree t p))

    each : (p : ℕ) → entry_ok_at t (trees t) p ≡ (within p && counted p)
    each p = entry_parts t (trees t) p

    both : tree_count_ok (trees t) ≡ true → (entries_within t && counts_ok t) ≡ all_below (ranks t) (entry_ok_at t (trees t))
    both h =
        let w : entries_within t ≡ all_below (ranks t) within = within_below t h in
        rw w (sym (all_same (ranks t) (entry_ok_at t (trees t)) (λ p. within p && counted p) (λ p l. each p) ∙ all_and (ranks t) within counted))

pub negative_high : (v : ℕ) → negative v ≡ true → 2 ^ 63 ≤ v
unfolding negative
negative_high v h = leb-true _ _ h

-- one turn of the loop over the entries
pub entry_turn : (t : List ℕ) (K p v next : ℕ) (b : Bool) → v ≡ entry t p → next ≡ entry t (p + 1) → b ≡ entry_ok K v next → b ≡ entry_ok_at t K p
unfolding entry_ok_at
entry_turn t K p v next b e n h = h ∙ ap₂ (entry_ok K) e n

-- the check's three ways out
module _ (t : List ℕ) where
  pub not_from_zero : (entry t 0 ≡ 0 → ⊥) → valid t ≡ false
  unfolding valid_one_pass
  not_from_zero h = valid_one_pass_lem t ∙ rw (ne_eqb (entry t 0) 0 h)

  pub not_in_limits : tree_count_ok (trees t) ≡ false → valid t ≡ false
  unfolding valid_one_pass
  not_in_limits h = valid_one_pass_lem t ∙ rw (h, and-false)

  pub trees_read : (P K : ℕ) → P ≡ ranks t → K ≡ entry t P → K ≡ trees t
  unfolding trees
  trees_read P K p k = k ∙ ap (entry t) p

  pub entries_decide : (P K : ℕ) (b : Bool) → P ≡ ranks t → K ≡ trees t → entry t 0 ≡ 0 → tree_count_ok K ≡ true → b ≡ all_below P (entry_ok_at t K) → b ≡ valid t
  unfolding valid_one_pass
  entries_decide P K b p k z h e =
      let a : b ≡ all_below (ranks t) (entry_ok_at t (trees t)) = e ∙ ap₂ (λ (n m : ℕ). all_below n (entry_ok_at t m)) p k in
      let l : tree_count_ok (trees t) ≡ true = rw k at h in
      a ∙ sym (valid_one_pass_lem t ∙ rw (eq-eqb (entry t 0) 0 z, l))
