use Rattle.pattern.proofs.Laws.{sends_tested}
use Rattle.pattern.proofs.range.sends_near.Goals as goal

pub returns : goal.returns
returns c = sends_tested _ _ _ _ c.requires.pair _ _ c.sent_low.ensures c.sent_high.ensures
