use Rattle.message_build.proofs.Trees.{TreesSent}
use Rattle.message_build.proofs.write.write_trees.Given as goal

abbrev pub invariant-loop-k : goal.invariant-loop-k
invariant-loop-k l = TreesSent l.part l.low l.n l.initial.out l.to l.k l.out
