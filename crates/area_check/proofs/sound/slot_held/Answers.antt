use Rattle.area_check.proofs.Checking.{slot_plain, slot_read}
use Rattle.area_check.proofs.sound.slot_held.Goals as goal

pub returns-then-plain : goal.returns-then-plain
returns-then-plain c = slot_plain _ _ _ c.plain.ensures c.if-plain.true

pub returns : goal.returns
returns c = slot_read _ _ _ c.in_form.ensures c.number_of.ensures
