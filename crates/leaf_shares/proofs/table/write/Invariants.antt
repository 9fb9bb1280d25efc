use Rattle.leaf_shares.proofs.LeafCounts.{Writing}
use Rattle.leaf_shares.specs.Leaves.{equal_shares}
use Rattle.leaf_shares.proofs.table.write.Given as goal

abbrev pub invariant-loop-p : goal.invariant-loop-p
invariant-loop-p l = Writing l.leaves l.ranks (equal_shares l.ranks l.leaves) l.initial.out l.p l.at.tree l.at.start l.out
