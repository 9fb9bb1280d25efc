use Rattle.ghost_links.specs.Means.{core_from, ghost_listed, ghost_face_down}
use Rattle.mesh.proofs.Packing.{Left}
use Rattle.mesh.specs.Means.{link_by_dimension}
use Rattle.ghost_links.proofs.check.listed_linked.Given as goal

abbrev pub invariant-loop-left : goal.invariant-loop-left
invariant-loop-left l = Left (ghost_listed l.x.ghosts (core_from l.bs l.x.at) l.j) (ghost_face_down (link_by_dimension l.x.dimension) l.x.ghosts (core_from l.bs l.x.at) l.j) l.faces l.left

abbrev pub decreases-loop-left : goal.decreases-loop-left
decreases-loop-left l = l.left
