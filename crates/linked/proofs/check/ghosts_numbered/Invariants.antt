use mathlib.Core.Path.{◌≡◌}
use mathlib.Core.Bool.{true}
use Rattle.encoding.specs.Below.{all_below}
use Rattle.linked.specs.Means.{ghost_numbered}
use Rattle.linked.proofs.check.ghosts_numbered.Given as goal

abbrev pub invariant-loop-j : goal.invariant-loop-j
invariant-loop-j l = all_below l.j (ghost_numbered l.bs l.x) ≡ true
