use Rattle.area_check.proofs.Checking.{after_first, after_read}
use Rattle.area_check.proofs.sound.after_last.Goals as goal

pub returns-then-j-eq0 : goal.returns-then-j-eq0
returns-then-j-eq0 c = after_first _ _ _ c.if-j-eq0.true

pub returns : goal.returns
returns c = after_read _ _ _ c.if-j-eq0.false c.number_of.ensures c.number_of-2.ensures
