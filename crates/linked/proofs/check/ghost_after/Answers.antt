use Rattle.linked.proofs.Numbers.{after_none, after_read}
use Rattle.linked.proofs.check.ghost_after.Goals as goal

pub returns-then-j-eq0 : goal.returns-then-j-eq0
returns-then-j-eq0 c = after_none _ _ _ c.if-j-eq0.true

pub returns : goal.returns
returns c = after_read _ _ _ c.number_of-2.ensures c.if-j-eq0.false c.number_of.ensures
