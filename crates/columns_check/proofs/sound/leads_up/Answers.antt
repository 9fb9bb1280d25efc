use Rattle.columns_check.proofs.Finding.{up_read}
use Rattle.columns_check.proofs.sound.leads_up.Goals as goal

pub returns : goal.returns
returns c = up_read _ _ _ _ c.byte.ensures.0 c.face_count.ensures.0 c.word-j.ensures
