use Rattle.leaf_shares.specs.Leaves.{leaf_start}
use mathlib.Core.Path.{◌≡◌}
use Prim.Native.Nat.{◌+◌}
use Rattle.leaf_shares.proofs.counts.sum.Given as goal

abbrev pub invariant-loop-x : goal.invariant-loop-x
invariant-loop-x l = leaf_start l.leaves l.from + l.n ≡ leaf_start l.leaves (l.from + l.x-index)
