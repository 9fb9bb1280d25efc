use mathlib.Core.Path.{◌≡◌}
use Rattle.columns.specs.Means.{line_of}
use Rattle.columns.proofs.turn.line.Given as goal

abbrev pub invariant-loop-i : goal.invariant-loop-i
invariant-loop-i l = l.dst ≡ line_of l.src l.from l.step l.initial.dst l.to l.gap l.i
