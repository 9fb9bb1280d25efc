use Rattle.ghost_links.specs.Means.{core_from, ghost_low, ghost_up, ghost_down, ghost_listed}
use Rattle.mesh.specs.Means.{packed}
use Rattle.part.specs.Means.{neighbour_in}
use Rattle.encoding.specs.Below.{all_below, any_below, count_below}
use mathlib.Core.Bool.{true}
use mathlib.Core.Path.{◌≡◌}
use Prim.Native.Nat.{◌+◌, ◌≤◌}
use Rattle.ghost_links.proofs.check.sorted.Given as goal

abbrev pub invariant-loop-face : goal.invariant-loop-face
invariant-loop-face l = (all_below l.face (ghost_low (core_from l.bs l.x.at) l.x.trees l.j) ≡ true)
    × (l.met ≡ any_below l.face (neighbour_in l.x.first (l.x.first + l.x.count) (core_from l.bs l.x.at l.j)))
    × ((l.ups ≡ count_below l.face (ghost_up l.x.first l.x.count l.x.ghosts (core_from l.bs l.x.at) l.j)) × (l.ups ≤ l.face))
    × ((l.downs ≡ count_below l.face (ghost_down l.x.ghosts (core_from l.bs l.x.at) l.j)) × (l.downs ≤ l.face))
    × (l.list ≡ packed l.face (ghost_listed l.x.ghosts (core_from l.bs l.x.at) l.j))
