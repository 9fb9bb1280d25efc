use Rattle.part_check.specs.Means.{ghost_numbered}
use Rattle.part.specs.Means.{ghost_core}
use Rattle.encoding.specs.Below.{all_below}
use mathlib.Core.Bool.{true}
use mathlib.Core.Path.{◌≡◌}
use Rattle.part_fault.proofs.search.ghosts_found.Given as goal

abbrev pub invariant-loop-j : goal.invariant-loop-j
invariant-loop-j l = all_below l.j (ghost_numbered l.first l.count (ghost_core l.part l.count) l.trees) ≡ true
