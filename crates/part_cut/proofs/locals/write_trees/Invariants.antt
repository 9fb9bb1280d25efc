use Rattle.part_cut.proofs.Renaming.{Written}
use Rattle.part_cut.proofs.locals.write_trees.Given as goal

abbrev pub invariant-loop-i : goal.invariant-loop-i
invariant-loop-i l = Written l.source l.from l.faces l.first l.n l.marks l.initial.out l.i l.out
