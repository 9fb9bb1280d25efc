use Rattle.refinement_list.proofs.Lists.{Writing}
use Rattle.refinement_list.proofs.trees.write.Given as goal

abbrev pub invariant-loop-i : goal.invariant-loop-i
invariant-loop-i l = Writing l.shapes l.lengths l.bits l.initial.out l.out l.at l.i
