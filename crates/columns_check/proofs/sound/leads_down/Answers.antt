use Rattle.columns_check.proofs.Finding.{down_read}
use Rattle.columns_check.proofs.sound.leads_down.Goals as goal

pub returns : goal.returns
returns c = down_read _ _ _ _ c.byte.ensures.0 c.face_count.ensures.0 c.word-j.ensures
