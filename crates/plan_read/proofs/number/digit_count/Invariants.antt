use Rattle.plan_read.specs.Means.{byte_at, is_digit}
use Rattle.encoding.specs.Below.{all_below}
use mathlib.Core.Bool.{true}
use mathlib.Core.Path.{◌≡◌}
use lib.ListN.{length}
use Prim.Native.Nat.{◌+◌, ◌-◌, ◌≤◌}
use Rattle.plan_read.proofs.number.digit_count.Given as goal

abbrev pub invariant-loop-i : goal.invariant-loop-i
invariant-loop-i l = (l.i - l.at ≤ length l.text - l.at) × (all_below (l.i - l.at) (λ j. is_digit (byte_at l.text (l.at + j))) ≡ true)
