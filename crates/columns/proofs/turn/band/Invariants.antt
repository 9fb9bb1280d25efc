use Prim.Native.Nat.{◌≤◌}
use Rattle.columns.specs.Means.{Moved}
use Rattle.columns.proofs.turn.band.Given as goal

abbrev pub invariant-loop-j : goal.invariant-loop-j
invariant-loop-j l = (l.j ≤ l.width) × Moved l.src l.from.start l.from.step l.from.leap l.initial.dst l.dst l.to.start l.to.step l.to.leap l.count l.j
