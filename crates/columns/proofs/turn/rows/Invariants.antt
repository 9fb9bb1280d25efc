use mathlib.Core.Path.{◌≡◌}
use Rattle.columns.specs.Means.{band_of}
use Rattle.columns.proofs.turn.rows.Given as goal

abbrev pub invariant-loop-j : goal.invariant-loop-j
invariant-loop-j l = l.dst ≡ band_of l.src l.from 1 l.leap l.initial.dst l.to 1 l.span 16 l.j
