use Rattle.refinement_list.proofs.Lists.{Surveyed}
use Rattle.refinement_list.proofs.trees.check_strings.Given as goal

abbrev pub invariant-loop-i : goal.invariant-loop-i
invariant-loop-i l = Surveyed l.shapes l.lengths l.bits l.small l.at l.i
