use Rattle.regions.proofs.Counting.{Counting}
use Rattle.regions.proofs.count.count_trees.Given as goal

abbrev pub invariant-loop-i : goal.invariant-loop-i
invariant-loop-i l = Counting l.part l.initial.out l.out l.i
