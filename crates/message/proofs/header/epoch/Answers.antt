use Rattle.message.specs.Layout.{message_epoch}
use Rattle.message.proofs.header.epoch.Goals as goal

pub returns : goal.returns
unfolding message_epoch
returns c = c.read_u32.ensures
