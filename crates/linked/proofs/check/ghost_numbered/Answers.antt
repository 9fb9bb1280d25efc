use Rattle.linked.proofs.Numbers.{numbered_read}
use Rattle.linked.proofs.check.ghost_numbered.Goals as goal

pub returns : goal.returns
returns c = numbered_read _ _ _ c.number_of-number.ensures c.in_range.ensures c.ghost_after.ensures
