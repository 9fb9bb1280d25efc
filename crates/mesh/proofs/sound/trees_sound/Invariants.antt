use Rattle.mesh.specs.Means.{links_up, links_down, tree_from_above, Reached}
use Rattle.mesh.specs.Mesh.{mesh_core}
use Prim.Native.Nat.{◌*◌, ◌≤◌, ◌-◌}
use Rattle.mesh.proofs.sound.trees_sound.Given as goal

abbrev pub invariant-loop-run : goal.invariant-loop-run
invariant-loop-run l =
    (l.run.next ≤ l.trees)
    × (Reached (tree_from_above (mesh_core l.mesh) l.dimension l.trees) (links_up (mesh_core l.mesh)) (links_down (mesh_core l.mesh)) l.run.next l.run.seen.ups l.run.seen.downs × ((l.run.seen.ups ≤ 6 * l.run.next) × (l.run.seen.downs ≤ 6 * l.run.next)))

abbrev pub decreases-loop-run : goal.decreases-loop-run
decreases-loop-run l = l.trees - l.run.next
