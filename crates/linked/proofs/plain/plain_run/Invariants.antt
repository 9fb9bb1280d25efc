use Rattle.linked.specs.Means.{tree_seen, tree_ups, tree_downs}
use Rattle.mesh.specs.Means.{RunAs}
use Rattle.linked.proofs.plain.plain_run.Given as goal

abbrev pub invariant-loop-next : goal.invariant-loop-next
invariant-loop-next l = RunAs (tree_seen l.bs l.x) (tree_ups l.bs l.x) (tree_downs l.bs l.x) l.x.count l.fn.begun (record { next = l.next; seen = record { ups = l.ups; downs = l.downs } })
