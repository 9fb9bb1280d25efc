use Rattle.area_check.proofs.Checking.{ghost_read}
use Rattle.area_check.proofs.sound.ghost_held.Goals as goal

pub returns : goal.returns
returns c = ghost_read _ _ _ _ _ _ c.number_of-number.ensures c.in_form.ensures c.after_last.ensures
