use lib.Dec.{eqb}
use mathlib.Core.Path.{sym, ◌∙◌, refl, ap}
use mathlib.Core.Bool.{and-false}
use borrow.Author.Tests.{eq-eqb, ne_eqb}
use Rattle.encoding.specs.Below.{all_below}
use Rattle.encoding.proofs.Below.{all_more, all_fails, all_to}
use Rattle.leaves.specs.Blocks.{block_count, sums_ok}
use Rattle.leaves.proofs.blocks.sums_ok.Goals as goal

pub returns-then-sums-leaves : goal.returns-then-sums-leaves
unfolding sums_ok block_count
returns-then-sums-leaves c = rw (ne_eqb _ _ c.if-sums-leaves.true)

pub loop-b-init : goal.loop-b-init
unfolding all_below
loop-b-init c = refl

pub returns-then-sum-block_sum : goal.returns-then-sum-block_sum
unfolding sums_ok
returns-then-sum-block_sum c =
    rw (all_fails _ _ c.loop-b.b c.loop-b-test.true (ap (eqb _) (sym c.block_sum.ensures) ∙ ne_eqb _ _ c.if-sum-block_sum.true), and-false)

pub loop-b-preserved : goal.loop-b-preserved
loop-b-preserved c = all_more _ _ c.loop-b.invariant (rw (← c.block_sum.ensures) (eq-eqb _ _ c.if-sum-block_sum.false))

pub returns : goal.returns
unfolding sums_ok block_count
returns c = rw (eq-eqb _ _ c.if-sums-leaves.false, all_to _ _ c.loop-b.b c.loop-b.auto.b-end c.loop-b-test.false c.loop-b.invariant)
