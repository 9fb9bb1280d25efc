use Prim.Native.Nat.{◌≤◌}
use Rattle.columns.specs.Means.{Moved}
use Rattle.columns.proofs.turn.strip.Given as goal

abbrev pub invariant-loop-i : goal.invariant-loop-i
invariant-loop-i l = (l.i ≤ l.count) × Moved l.src l.from.start l.from.step l.from.leap l.initial.dst l.dst l.to.start l.to.step l.to.leap l.i 16
