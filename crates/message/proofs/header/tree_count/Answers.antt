use Rattle.message.specs.Layout.{message_trees}
use Rattle.message.proofs.header.tree_count.Goals as goal

pub returns : goal.returns
unfolding message_trees
returns c = c.read_u32.ensures
