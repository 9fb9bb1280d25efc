use Rattle.positions.specs.Means.{some_has, Added}
use Rattle.positions.proofs.index.mark_numbers.Given as goal

abbrev pub invariant-loop-i : goal.invariant-loop-i
invariant-loop-i l = Added l.initial.marks (some_has l.bs l.at l.i) l.marks
