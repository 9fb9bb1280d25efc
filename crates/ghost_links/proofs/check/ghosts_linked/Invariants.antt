use Rattle.ghost_links.specs.Means.{core_from, ghost_ups, ghost_downs, ghost_from_one_end}
use Rattle.mesh.specs.Means.{link_by_dimension}
use Rattle.encoding.specs.Below.{all_below, sum_below}
use mathlib.Core.Bool.{true}
use mathlib.Core.Path.{◌≡◌}
use Prim.Native.Nat.{◌*◌, ◌≤◌}
use Rattle.ghost_links.proofs.check.ghosts_linked.Given as goal

abbrev pub invariant-loop-j : goal.invariant-loop-j
invariant-loop-j l = (all_below l.j (ghost_from_one_end (link_by_dimension l.x.dimension) l.x.ghosts (core_from l.bs l.x.at) l.x.first l.x.count l.x.dimension l.x.trees) ≡ true)
    × ((l.ups ≡ sum_below l.j (ghost_ups l.x.first l.x.count l.x.ghosts (core_from l.bs l.x.at))) × (l.ups ≤ 6 * l.j))
    × ((l.downs ≡ sum_below l.j (ghost_downs l.x.ghosts (core_from l.bs l.x.at))) × (l.downs ≤ 6 * l.j))
