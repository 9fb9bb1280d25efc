use mathlib.Core.Path.{refl}
use borrow.Author.Tests.{le-leb, lt-leb}
use Rattle.encoding.specs.Below.{all_below}
use Rattle.encoding.proofs.Below.{all_more, all_fails, all_to}
use Rattle.leaves.specs.Weighted.{max_weight, weights_ok}
use Rattle.leaves.proofs.weights.weights_ok.Goals as goal

pub loop-x-init : goal.loop-x-init
unfolding all_below
loop-x-init c = refl

pub returns-then-x-gt65535 : goal.returns-then-x-gt65535
unfolding weights_ok
returns-then-x-gt65535 c = rw (all_fails _ _ c.loop-x.x-index c.loop-x-test.true (lt-leb _ max_weight c.if-x-gt65535.true))

pub loop-x-preserved : goal.loop-x-preserved
loop-x-preserved c = all_more _ _ c.loop-x.invariant (le-leb _ max_weight c.if-x-gt65535.false)

pub returns : goal.returns
unfolding weights_ok
returns c = rw (all_to _ _ c.loop-x.x-index c.loop-x.auto.x-index-end c.loop-x-test.false c.loop-x.invariant, c.total.ensures)
