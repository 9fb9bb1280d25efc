use Rattle.encoding.specs.Words.{zero_at}
use Rattle.encoding.specs.Below.{all_below}
use mathlib.Core.Path.{◌≡◌}
use mathlib.Core.Bool.{true}
use Prim.Native.Nat.{◌*◌}
use Rattle.encoding.proofs.zero.all_zero.Given as goal

abbrev pub invariant-loop-block : goal.invariant-loop-block
invariant-loop-block l = all_below (64 * l.block) (zero_at l.bs) ≡ true

abbrev pub invariant-loop-i : goal.invariant-loop-i
invariant-loop-i l = all_below l.i (zero_at l.bs) ≡ true
