use Rattle.mesh.specs.Means.{links_up, links_down, tree_from_above, RunAs}
use Rattle.mesh.specs.Mesh.{mesh_core}
use Rattle.mesh.proofs.plain.plain_run.Given as goal

abbrev pub invariant-loop-next : goal.invariant-loop-next
invariant-loop-next l =
    RunAs (tree_from_above (mesh_core l.mesh) 3 l.trees) (links_up (mesh_core l.mesh)) (links_down (mesh_core l.mesh)) l.trees l.fn.begun (record { next = l.next; seen = record { ups = l.ups; downs = l.downs } })
