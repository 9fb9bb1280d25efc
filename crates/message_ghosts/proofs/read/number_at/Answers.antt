use Rattle.message_ghosts.proofs.Reading.{number_read}
use Rattle.message_ghosts.proofs.read.number_at.Goals as goal

pub returns : goal.returns
returns c = number_read _ _ _ _ c.record_at.ensures _ c.number_of.ensures
