-- Laws of refusals: what comes before a `?` and what comes behind it.
use native.Mathlib.Omega.{arith}
use mathlib.Core.Path.{◌≡◌}
use mathlib.Core.List.{List, [], ◌∷◌, ◌++◌}
use Rattle.encoding.specs.Refusal.{Check, first_failed}
use Rattle.encoding.specs.Refusals.{refusal_number}
use Rattle.encoding.proofs.Below.{either}
use Rattle.encoding.specs.declared.refusal.Refusal.{Refusal}

-- no refusal has the number 0, which is C's for an accepted call
pub number_positive : (e : Refusal) → refusal_number e ≡ 0 → ⊥
number_positive Refusal.Input h = omega arith
number_positive Refusal.Ranks h = omega arith
number_positive Refusal.Table h = omega arith
number_positive Refusal.Differ h = omega arith
number_positive Refusal.Index h = omega arith
number_positive Refusal.Partition h = omega arith
number_positive Refusal.Mesh h = omega arith
number_positive Refusal.Part h = omega arith
number_positive Refusal.Nothing h = omega arith
number_positive Refusal.Area h = omega arith
number_positive Refusal.Layout h = omega arith
number_positive Refusal.Run h = omega arith
number_positive Refusal.Receiver h = omega arith
number_positive Refusal.Sender h = omega arith
number_positive Refusal.Heard h = omega arith
number_positive Refusal.Trees h = omega arith
number_positive Refusal.Ghosts h = omega arith
number_positive Refusal.Held h = omega arith
number_positive Refusal.Missing h = omega arith
number_positive Refusal.Join h = omega arith
number_positive Refusal.Buffer h = omega arith
number_positive Refusal.String h = omega arith
number_positive Refusal.Shape h = omega arith
number_positive Refusal.Leaves h = omega arith
number_positive Refusal.Extent h = omega arith
number_positive Refusal.Text h = omega arith
number_positive Refusal.Twice h = omega arith
number_positive Refusal.Edge h = omega arith
number_positive Refusal.Weights h = omega arith
number_positive Refusal.Probe h = omega arith
number_positive Refusal.Box h = omega arith
number_positive Refusal.Columns h = omega arith
number_positive Refusal.Occupied h = omega arith
number_positive Refusal.Range h = omega arith

-- a refusal by the first checks is that of all
pub refused_first : (e : Refusal) (xs ys : List Check) → refusal_number e ≡ first_failed xs → refusal_number e ≡ first_failed (xs ++ ys)
unfolding first_failed
refused_first e [] ys h = absurd (number_positive e h)
refused_first e (c ∷ cs) ys h = either c.passes (λ t. rw t (refused_first e cs ys (rw t at h))) (λ t. rw t (rw t at h))
