use Rattle.message.proofs.Checking.{next_read}
use Rattle.message.proofs.layout.record_next.Goals as goal

pub returns : goal.returns
returns c = next_read _ _ _ _ c.core_at-at.ensures.0 c.record_laid.ensures c.after_last.ensures
