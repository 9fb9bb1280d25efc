use Prim.Native.Nat.{◌*◌, ◌≤◌, ◌-◌}
use Rattle.mesh.specs.Means.{Reached}
use Rattle.linked.specs.Means.{tree_seen, tree_ups, tree_downs}
use Rattle.linked.proofs.trees.trees_linked.Given as goal

abbrev pub invariant-loop-run : goal.invariant-loop-run
invariant-loop-run l = (l.run.next ≤ l.x.count) × Reached (tree_seen l.bs l.x) (tree_ups l.bs l.x) (tree_downs l.bs l.x) l.run.next l.run.seen.ups l.run.seen.downs × ((l.run.seen.ups ≤ 6 * l.run.next) × (l.run.seen.downs ≤ 6 * l.run.next))

abbrev pub decreases-loop-run : goal.decreases-loop-run
decreases-loop-run l = l.x.count - l.run.next
