use Rattle.message.specs.Layout.{message_sender}
use Rattle.message.proofs.header.sender.Goals as goal

pub returns : goal.returns
unfolding message_sender
returns c = c.read_u32.ensures
