use Rattle.part.proofs.Search.{Between}
use Prim.Native.Nat.{◌-◌}
use Rattle.part.proofs.range.find_ghost.Given as goal

abbrev pub invariant-loop-low : goal.invariant-loop-low
invariant-loop-low l = Between l.bs l.at l.count l.k l.low l.high

abbrev pub decreases-loop-low : goal.decreases-loop-low
decreases-loop-low l = l.high - l.low
