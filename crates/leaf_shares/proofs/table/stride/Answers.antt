use Rattle.leaf_shares.proofs.LeafCounts.{start_bound, walk_within, walk_on}
use native.Mathlib.Omega.{arith}
use Prim.Native.Nat.{◌+◌}
use Rattle.leaf_shares.proofs.table.stride.Goals as goal

pub overflow_sub-leaves : goal.overflow_sub-leaves
overflow_sub-leaves c = omega (arith, walk_within c.loop-at.invariant)

pub overflow_add-at-in-loop-at : goal.overflow_add-at-in-loop-at
overflow_add-at-in-loop-at c =
    let loop = c.loop-at in
    omega (arith, c.sum-n.ensures, loop.invariant.begins, start_bound c.args.leaves.now loop.invariant.ok (loop.at.tree + 16) (omega arith))

pub loop-at-preserved : goal.loop-at-preserved
loop-at-preserved c = walk_on c.loop-at.invariant _ _ c.sum-n.ensures (omega arith) (omega arith)
