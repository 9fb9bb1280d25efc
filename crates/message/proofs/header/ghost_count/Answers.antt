use Rattle.message.specs.Layout.{message_ghosts}
use Rattle.message.proofs.header.ghost_count.Goals as goal

pub returns : goal.returns
unfolding message_ghosts
returns c = c.read_u32.ensures
