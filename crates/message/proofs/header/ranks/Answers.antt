use Rattle.message.specs.Layout.{message_p}
use Rattle.message.proofs.header.ranks.Goals as goal

pub returns : goal.returns
unfolding message_p
returns c = c.read_u32.ensures
