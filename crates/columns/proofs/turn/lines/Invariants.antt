use mathlib.Core.Path.{◌≡◌}
use Rattle.columns.specs.Means.{band_of}
use Rattle.columns.proofs.turn.lines.Given as goal

abbrev pub invariant-loop-j : goal.invariant-loop-j
invariant-loop-j l = l.dst ≡ band_of l.src l.from.start l.from.step l.from.leap l.initial.dst l.to.start l.to.step l.to.leap l.count l.j
