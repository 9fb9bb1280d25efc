-- What a checked table is, and the calls that begin with the check.
use Prim.Native.Nat.{ℕ}
use native.Mathlib.Omega.{arith}
use mathlib.Core.Path.{◌≡◌, refl}
use mathlib.Core.Bool.{Bool, true, false, cond}
use mathlib.Core.List.{List, [], ◌∷◌}
use lib.Dec.{ltb}
use borrow.Author.Tests.{ne_eqb}
use Rattle.encoding.specs.declared.refusal.Refusal.{Refusal}
use Rattle.encoding.specs.Refusal.{check, first_failed}
use Rattle.encoding.specs.Refusals.{refusal_number}
use Rattle.encoding.proofs.Refusals.{refused_first, number_positive}
use Rattle.offsets.specs.Table.{ranks, ranks_ok, valid}
use Rattle.offsets.specs.Calls.{table_refusal, range_refused, range_refusal, range_answer, table_range}

two_pass : (a b : Bool) → 0 ≡ cond {A = ℕ} a (cond b 0 3) 2 → (a ≡ true) × (b ≡ true)
two_pass true true e = (refl, refl)
two_pass true false e = absurd (omega arith)
two_pass false b e = absurd (omega arith)

pub table_known : (t : List ℕ) → 0 ≡ table_refusal t → (ranks_ok t ≡ true) × (valid t ≡ true)
unfolding table_refusal first_failed
table_known t e = two_pass _ _ e

pub range_fails : (t : List ℕ) (p : ℕ) (e : Refusal) → refusal_number e ≡ table_refusal t → range_refused (refusal_number e) ≡ table_range t p
unfolding table_refusal table_range range_refusal range_answer
range_fails t p e h =
    let all : refusal_number e ≡ range_refusal t p = refused_first e (check (ranks_ok t) 2 ∷ check (valid t) 3 ∷ []) (check (ltb p (ranks t)) 5 ∷ []) h in
    rw (← all, ne_eqb (refusal_number e) 0 (number_positive e))
