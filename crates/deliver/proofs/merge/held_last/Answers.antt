use Rattle.deliver.proofs.Merging.{last_none, last_read}
use Rattle.deliver.proofs.merge.held_last.Goals as goal

pub returns-then-i-eq0 : goal.returns-then-i-eq0
returns-then-i-eq0 c = last_none _ _ _ _ c.if-i-eq0.true

pub returns : goal.returns
returns c = last_read _ _ _ _ _ _ c.if-i-eq0.false c.number_of-held.ensures c.number_of-came.ensures
