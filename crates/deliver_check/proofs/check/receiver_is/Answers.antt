use Rattle.deliver_check.proofs.Checking.{receiver_read}
use Rattle.deliver_check.proofs.check.receiver_is.Goals as goal

pub returns : goal.returns
returns c = receiver_read _ _ c.receiver.ensures c.rank.ensures
