use Rattle.leaf_shares.proofs.LeafCounts.{walk_at, walk_fits, walk_more, walk_done}
use native.Mathlib.Omega.{arith}
use Rattle.leaf_shares.proofs.table.advance.Goals as goal

pub offset_bounds-leaves-at : goal.offset_bounds-leaves-at
offset_bounds-leaves-at c = omega (arith, walk_at c.loop-at.invariant c.loop-at-test.true)

pub bounds-leaves-at : goal.bounds-leaves-at
bounds-leaves-at c = omega (arith, walk_at c.loop-at.invariant c.loop-at-test.true)

pub overflow_add-at : goal.overflow_add-at
overflow_add-at c = omega (arith, walk_fits c.loop-at.invariant c.loop-at-test.true)

pub overflow_add-at-in-loop-at : goal.overflow_add-at-in-loop-at
overflow_add-at-in-loop-at c = omega (arith, walk_at c.loop-at.invariant c.loop-at-test.true)

pub loop-at-smaller : goal.loop-at-smaller
loop-at-smaller c = omega (arith, walk_at c.loop-at.invariant c.loop-at-test.true)

pub loop-at-preserved : goal.loop-at-preserved
loop-at-preserved c = walk_more c.loop-at.invariant c.loop-at-test.true

pub returns : goal.returns
returns c = (walk_done c.loop-at.invariant c.loop-at-test.false, c.loop-at.invariant.begins)
