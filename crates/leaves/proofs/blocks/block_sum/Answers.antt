use native.Mathlib.Omega.{arith}
use Rattle.leaves.proofs.BlockTotals.{block_sum_is}
use Rattle.leaves.proofs.blocks.block_sum.Goals as goal

pub returns : goal.returns
returns c = block_sum_is c.args.leaves.now c.args.b (omega arith) c.sum.ensures (omega (arith, c.min-trees.ensures))
