use borrow.Author.Tests.{le-leb, lt-leb}
use Rattle.probes.specs.Means.{order_of}
use Rattle.probes.proofs.boxes.order.Goals as goal

pub returns-then-bits-ge2147483648 : goal.returns-then-bits-ge2147483648
unfolding order_of
returns-then-bits-ge2147483648 c = rw (le-leb _ _ c.if-bits-ge2147483648.true)

pub returns : goal.returns
unfolding order_of
returns c = rw (lt-leb _ _ c.if-bits-ge2147483648.false)
