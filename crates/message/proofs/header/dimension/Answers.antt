use Rattle.message.specs.Layout.{message_dimension}
use Rattle.message.proofs.header.dimension.Goals as goal

pub returns : goal.returns
unfolding message_dimension
returns c = c.read_u32.ensures
