-- Refusal 1 is that of a text that is no render.
use Prim.Native.Nat.{ℕ, ◌<◌}
use mathlib.Core.Path.{◌≡◌, refl}
use mathlib.Core.Bool.{Bool, true, false}
use mathlib.Core.List.{List, [], ◌∷◌}
use native.Mathlib.Omega.{arith}
use Rattle.encoding.specs.Refusal.{Check, check, first_failed}
use Rattle.encoding.proofs.Below.{either, clash}
use Rattle.pattern.specs.Calls.{table_checks}
use Rattle.plan_read.specs.Means.{form_ok, parse}
use Rattle.plan_read.specs.Text.{Rendered}
use Rattle.plan_read.proofs.Grammar.{form_exact}
use Rattle.plan_text.specs.Plan.{plan_refusal}

-- a check with another number than 1, before such checks
not_one : (n : ℕ) (b : Bool) (cs : List Check) → 1 < n → (first_failed cs ≡ 1 → ⊥) → first_failed (check b n ∷ cs) ≡ 1 → ⊥
unfolding first_failed
not_one n true cs h f e = f e
not_one n false cs h f e = omega arith

none_one : first_failed [] ≡ 1 → ⊥
unfolding first_failed
none_one e = omega arith

-- the first check that fails gives its number
first_fails : (b : Bool) (n : ℕ) (cs : List Check) → b ≡ false → first_failed (check b n ∷ cs) ≡ n
unfolding first_failed
first_fails b n cs e = rw e

-- where it holds, the others decide
first_one : (b : Bool) (cs : List Check) → (first_failed cs ≡ 1 → ⊥) → first_failed (check b 1 ∷ cs) ≡ 1 → b ≡ false
unfolding first_failed
first_one true cs f e = absurd (f e)
first_one false cs f e = refl

-- refusal 1 comes exactly where a text has over 32,768 bytes or is no render
pub refused_form : (text : List ℕ) → (plan_refusal text ≡ 1 → Rendered text → ⊥) × ((Rendered text → ⊥) → plan_refusal text ≡ 1)
unfolding plan_refusal table_checks parse
refused_form text = (
  λ e r. clash ((form_exact text).1 r)
      (first_one _ _ (not_one 2 _ _ (omega arith) (not_one 2 _ _ (omega arith) (not_one 3 _ _ (omega arith) (not_one 4 _ _ (omega arith) none_one)))) e),
  λ n. either (form_ok text) (λ ok. absurd (n ((form_exact text).0 ok))) (λ bad. first_fails _ 1 _ bad),
)
