use mathlib.Core.Path.{◌≡◌}
use mathlib.Core.Bool.{true}
use Rattle.encoding.specs.Below.{all_below}
use Rattle.deliver_ghosts.specs.Means.{ghost_beside}
use Rattle.deliver_ghosts.proofs.ghosts.ghosts_beside.Given as goal

abbrev pub invariant-loop-j : goal.invariant-loop-j
invariant-loop-j l = all_below l.j (ghost_beside l.new l.rank l.message) ≡ true
