use lib.ListN.{length}
use mathlib.Core.Path.{◌≡◌}
use Rattle.leaves.specs.Weighted.{weight_before, weighted_shares}
use Rattle.leaf_shares.proofs.LeafCounts.{Writing}
use Rattle.leaves.proofs.weights.write.Given as goal

abbrev pub invariant-loop-p : goal.invariant-loop-p
invariant-loop-p l = Writing l.leaves (length l.weights) (weighted_shares l.weights l.leaves) l.initial.out l.p l.at.tree l.at.start l.out × (l.v ≡ weight_before l.weights l.p) × (l.lo ≡ weighted_shares l.weights l.leaves l.p)
