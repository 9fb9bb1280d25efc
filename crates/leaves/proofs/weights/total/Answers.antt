use Rattle.leaves.proofs.WeightedShares.{weight_none, weight_more, weight_all}
use Rattle.offsets.proofs.Tables.{ranks_within}
use native.Mathlib.Omega.{arith}
use mathlib.Core.Path.{◌≡◌, sym, ◌∙◌}
use lib.ListN.{length}
use Rattle.leaves.proofs.weights.total.Goals as goal

pub loop-x-init : goal.loop-x-init
loop-x-init c = (sym (weight_none _), omega arith)

pub overflow_add-w : goal.overflow_add-w
overflow_add-w c = omega (arith, ranks_within _ c.requires)

pub loop-x-preserved : goal.loop-x-preserved
loop-x-preserved c = omega (arith, weight_more c.args.weights.now c.loop-x.x-index, c.type_inv.weights c.loop-x.x-index)

pub returns : goal.returns
returns c = let e : c.loop-x.x-index ≡ length c.args.weights.now = omega arith in c.loop-x.invariant.0 ∙ rw e (weight_all _)
