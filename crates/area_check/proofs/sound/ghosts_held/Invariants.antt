use Rattle.encoding.specs.Below.{all_below}
use Rattle.area_check.specs.Means.{ghost_held_at}
use mathlib.Core.Bool.{true}
use mathlib.Core.Path.{◌≡◌}
use Rattle.area_check.proofs.sound.ghosts_held.Given as goal

abbrev pub invariant-loop-j : goal.invariant-loop-j
invariant-loop-j l = all_below l.j (ghost_held_at l.area l.at l.trees l.first l.end) ≡ true
