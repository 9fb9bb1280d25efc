use Rattle.message.specs.Layout.{message_receiver}
use Rattle.message.proofs.header.receiver.Goals as goal

pub returns : goal.returns
unfolding message_receiver
returns c = c.read_u32.ensures
