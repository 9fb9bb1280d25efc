use Rattle.deliver_ghosts.specs.Means.{beside_first, Marked}
use Rattle.deliver_ghosts.proofs.ghosts.mark_trees.Given as goal

abbrev pub invariant-loop-i : goal.invariant-loop-i
invariant-loop-i l = Marked l.initial.marks (beside_first l.message l.i) l.marks
