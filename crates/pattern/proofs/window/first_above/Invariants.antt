use Rattle.pattern.proofs.Windows.{Halving}
use Prim.Native.Nat.{◌-◌}
use Rattle.pattern.proofs.window.first_above.Given as goal

abbrev pub invariant-loop-low : goal.invariant-loop-low
invariant-loop-low l = Halving l.t l.k l.low l.high

abbrev pub decreases-loop-low : goal.decreases-loop-low
decreases-loop-low l = l.high - l.low
