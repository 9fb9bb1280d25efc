use Rattle.brick.proofs.Turns.{Turn}
use Rattle.brick.proofs.trees.write_trees.Given as goal

abbrev pub invariant-loop-k : goal.invariant-loop-k
invariant-loop-k l = Turn l.a l.b l.c l.p l.q l.r l.trees l.initial.out l.k l.at.x l.at.y l.at.z l.out
