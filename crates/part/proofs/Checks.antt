-- The checks of a table and a rank, in their order, and the calls that begin with them.
use Prim.Native.Nat.{ℕ, ◌+◌, ◌*◌, ◌≤◌}
use native.Mathlib.Omega.{arith}
use mathlib.Core.Path.{◌≡◌, refl, sym, ◌∙◌}
use mathlib.Core.Bool.{Bool, true, false, cond}
use mathlib.Core.List.{List, ◌++◌}
use lib.Dec.{ltb}
use lib.ListN.{length}
use borrow.Author.Tests.{lt-ltb, ltb-true}
use Rattle.encoding.specs.Pieces.{Bytes}
use Rattle.encoding.specs.Refusal.{Check, first_failed}
use Rattle.offsets.specs.Table.{ranks, ranks_ok, valid, first_tree, end_tree}
use Rattle.offsets.proofs.Tables.{first_le_end, size}
use Rattle.part.specs.Means.{RankKnown}
use Rattle.part.specs.Checks.{rank_checks}

-- three checks that pass
three_pass : (a b d : Bool) → cond {A = ℕ} a (cond b (cond d 0 5) 3) 2 ≡ 0 → (a ≡ true) × (b ≡ true) × (d ≡ true)
three_pass true true true e = (refl, refl, refl)
three_pass true true false e = absurd (omega arith)
three_pass true false d e = absurd (omega arith)
three_pass false b d e = absurd (omega arith)

-- one of three that fails, with more behind them; the last may ask for more
pub three_fail : (a b d e : Bool) (n : ℕ) {r : ℕ} → (d ≡ false → e ≡ false) → r ≡ cond a (cond b (cond d 0 5) 3) 2 → (r ≡ 0 → ⊥) → r ≡ cond a (cond b (cond e n 5) 3) 2
three_fail true true true e n k q h = absurd (h q)
three_fail true true false e n k q h = rw (k refl) q
three_fail true false d e n k q h = q
three_fail false b d e n k q h = q

module _ (table : List ℕ) (rank : ℕ) {r : ℕ} (checked : r ≡ first_failed (rank_checks table rank)) where
  -- one fails: the checks behind it don't matter
  pub rank_fails : (cs : List Check) → (r ≡ 0 → ⊥) → r ≡ first_failed (rank_checks table rank ++ cs)
  unfolding first_failed rank_checks
  rank_fails cs h = three_fail (ranks_ok table) (valid table) (ltb rank (ranks table)) (ltb rank (ranks table)) (first_failed cs) (λ p. p) checked h

  module _ (ok : r ≡ 0) where
    pub rank_known : RankKnown table rank
    unfolding first_failed rank_checks
    rank_known =
        let t = three_pass (ranks_ok table) (valid table) (ltb rank (ranks table)) (sym checked ∙ ok) in
        record { counted = t.0; checked = t.1; below = ltb-true _ _ t.2 }

    pub rank_passes : (cs : List Check) → first_failed (rank_checks table rank ++ cs) ≡ first_failed cs
    unfolding first_failed rank_checks
    rank_passes cs = rw (rank_known.counted, rank_known.checked, lt-ltb rank (ranks table) rank_known.below)

    -- the table's entries of the rank are there, and its range rises
    pub rank_fits : Bytes table → (8 * (rank + 1 + 1) ≤ length table) × (first_tree table rank ≤ end_tree table rank)
    rank_fits b =
        let k = rank_known in
        (omega (arith, size table b k.counted k.checked, k.below), first_le_end table b k.counted k.checked rank k.below)
