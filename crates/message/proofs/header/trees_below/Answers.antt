use Rattle.message.specs.Layout.{message_k}
use Rattle.message.proofs.header.trees_below.Goals as goal

pub returns : goal.returns
unfolding message_k
returns c = c.read_u32.ensures
