-- Laws of valid tables.
use Prim.Native.Nat.{ℕ, zero, suc, ◌+◌, ◌*◌, ◌^◌, ◌≤◌, ◌<◌}
use native.Mathlib.Nat.{le_refl}
use native.Mathlib.Numerals.{add-one}
use native.Mathlib.Omega.{arith}
use mathlib.Core.Path.{◌≡◌}
use mathlib.Core.Bool.{true, false, cond, ◌&&◌}
use mathlib.Core.List.{List}
use lib.Dec.{leb, ltb, eqb}
use lib.ListN.{length}
use borrow.Author.Tests.{eqb-true, leb-true, lt-leb}
use Rattle.encoding.specs.Pieces.{Bytes}
use Rattle.encoding.proofs.Below.{tests, either, and_fst, and_snd, all_at, below_suc}
use Rattle.encoding.proofs.Numbers.{at_bound}
use Rattle.offsets.specs.Limits.{max_ranks, max_trees, rank_count_ok, tree_count_ok}
use Rattle.offsets.specs.Table.{table_length, ranks, ranks_ok, entry, negative, magnitude, first_of, trees, first_tree, end_tree, tree_count, entries_within, counts_ok, valid}

-- ---- limits

-- a number of ranks within its limits
pub ranks_within : (P : ℕ) → rank_count_ok P ≡ true → (1 ≤ P) × (P ≤ max_ranks)
unfolding rank_count_ok
ranks_within P e = (leb-true 1 P (and_fst _ _ e), leb-true P max_ranks (and_snd (leb 1 P) _ e))

-- a number of trees within its limits
pub trees_within : (K : ℕ) → tree_count_ok K ≡ true → (1 ≤ K) × (K ≤ max_trees)
unfolding tree_count_ok
trees_within K e = (leb-true 1 K (and_fst _ _ e), leb-true K max_trees (and_snd (leb 1 K) _ e))

-- what falls at no step never falls
pub never_falls : (n : ℕ) (f : ℕ → ℕ) → ((p : ℕ) → p < n → f p ≤ f (suc p)) → (p q : ℕ) → p ≤ q → q ≤ n → f p ≤ f q
never_falls n f s p zero h k = let e : p ≡ 0 = omega arith in rw e (le_refl (f 0))
never_falls n f s p (suc q) h k =
    below_suc p (suc q) (omega arith)
    (λ l. omega (arith, never_falls n f s p q (omega arith) (omega arith), s q k))
    (λ e. rw e (le_refl (f (suc q))))

-- ---- the 64 bits of an entry

-- a small number isn't negative
pub small_plain : (v : ℕ) → v ≤ max_trees → negative v ≡ false
unfolding negative
small_plain v h = lt-leb (2 ^ 63) v (omega arith)

-- |v| = v where v ≥ 0
pub plain_magnitude : (v : ℕ) → negative v ≡ false → magnitude v ≡ v
unfolding magnitude
plain_magnitude v e = rw e

-- the first tree is |v| where v ≥ 0, and |v| - 1 where v < 0
pub plain_of : (v : ℕ) → negative v ≡ false → first_of v ≡ magnitude v
unfolding first_of magnitude
plain_of v e = rw e

pub shared_of : (v : ℕ) → v < 2 ^ 64 → negative v ≡ true → first_of v + 1 ≡ magnitude v
unfolding first_of magnitude
shared_of v h e = rw e (omega arith)

-- the end of a rank is the next entry's
pub end_next : (t : List ℕ) (p : ℕ) → end_tree t p ≡ magnitude (entry t (suc p))
unfolding end_tree
end_next t p = rw add-one

-- ---- valid tables

module _ (t : List ℕ) (b : Bytes t) (ok : ranks_ok t ≡ true) (v : valid t ≡ true) where
  pub size : length t ≡ table_length (ranks t)
  unfolding ranks_ok
  size = eqb-true (length t) (table_length (ranks t)) (and_fst _ _ ok)

  limits : (1 ≤ ranks t) × (ranks t ≤ max_ranks)
  unfolding ranks_ok
  limits = ranks_within (ranks t) (and_snd (eqb (length t) (table_length (ranks t))) (rank_count_ok (ranks t)) ok)

  pub ranks_low : 1 ≤ ranks t
  ranks_low = limits.0

  pub ranks_high_lem : ranks t ≤ max_ranks
  ranks_high_lem = limits.1

  pub entry_bits : (p : ℕ) → entry t p < 2 ^ 64
  unfolding entry
  entry_bits p = at_bound 8 t (8 * p) b

  pub zero_first : entry t 0 ≡ 0
  unfolding valid
  zero_first = eqb-true (entry t 0) 0 (and_fst _ _ (and_fst _ _ (and_fst _ _ v)))

  trees_ok_lem : (1 ≤ trees t) × (trees t ≤ max_trees)
  unfolding valid
  trees_ok_lem = trees_within (trees t) (and_snd (eqb (entry t 0) 0) (tree_count_ok (trees t)) (and_fst _ (entries_within t) (and_fst _ (counts_ok t) v)))

  pub trees_high : trees t ≤ max_trees
  trees_high = trees_ok_lem.1

  -- no entry is above K or below -K
  pub within : (p : ℕ) → p ≤ ranks t → magnitude (entry t p) ≤ trees t
  unfolding valid entries_within
  within p h = leb-true (magnitude (entry t p)) (trees t) (all_at (ranks t + 1) _ (and_snd (eqb (entry t 0) 0 && tree_count_ok (trees t)) (entries_within t) (and_fst _ _ v)) p (omega arith))

  -- O[p] ≥ 0: the first tree is O[p]
  pub plain_first : (p : ℕ) → negative (entry t p) ≡ false → first_tree t p ≡ magnitude (entry t p)
  unfolding first_tree
  plain_first p e = plain_of (entry t p) e

  -- O[p] < 0: the first tree is the last of those that end there
  pub shared_first : (p : ℕ) → negative (entry t p) ≡ true → first_tree t p + 1 ≡ magnitude (entry t p)
  unfolding first_tree
  shared_first p e = shared_of (entry t p) (entry_bits p) e

  count-ok : (p : ℕ) → p < ranks t → cond (negative (entry t p)) (ltb (first_tree t p) (end_tree t p)) (leb (first_tree t p) (end_tree t p)) ≡ true
  unfolding valid counts_ok
  count-ok p h = all_at (ranks t) _ (and_snd (eqb (entry t 0) 0 && tree_count_ok (trees t) && entries_within t) (counts_ok t) v) p h

  -- where O[p] is negative, p has trees
  pub first_lt_end : (p : ℕ) → p < ranks t → negative (entry t p) ≡ true → first_tree t p < end_tree t p
  first_lt_end p h e = omega (tests, rw e at (count-ok p h))

  pub first_le_end : (p : ℕ) → p < ranks t → first_tree t p ≤ end_tree t p
  first_le_end p h = either (negative (entry t p)) (λ e. omega (arith, first_lt_end p h e)) (λ e. omega (tests, rw e at (count-ok p h)))

  pub end_trees : (p : ℕ) → p < ranks t → end_tree t p ≤ trees t
  end_trees p h = rw (end_next t p) (within (suc p) h)

  pub count_add : (p : ℕ) → p < ranks t → first_tree t p + tree_count t p ≡ end_tree t p
  unfolding tree_count
  count_add p h = omega (arith, first_le_end p h)

  -- |O[p]| never falls
  pub rises : (p q : ℕ) → p ≤ q → q ≤ ranks t → magnitude (entry t p) ≤ magnitude (entry t q)
  rises =
      never_falls (ranks t) (λ p. magnitude (entry t p))
      (λ p h. rw (← end_next t p)
      (either (negative (entry t p))
      (λ e. omega (arith, first_lt_end p h e, shared_first p e))
      (λ e. omega (arith, first_le_end p h, plain_first p e))))

  -- |O[P]| = K
  pub last_end : magnitude (entry t (ranks t)) ≡ trees t
  unfolding trees
  last_end = plain_magnitude (trees t) (small_plain (trees t) trees_high)

-- a rank's range in a valid table fits 32 bits
pub range_fits_lem : (t : List ℕ) (P p : ℕ) → Bytes t → ranks_ok t ≡ true → valid t ≡ true → P ≡ ranks t → p < P → (first_tree t p ≤ end_tree t p) × (end_tree t p ≤ max_trees)
range_fits_lem t P p b ok v e h =
    let l : p < ranks t = omega arith in
    (first_le_end t b ok v p l, omega (arith, end_trees t b ok v p l, trees_high t b ok v))
