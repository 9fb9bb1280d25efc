use Rattle.leaves.proofs.BlockTotals.{adding_all, adding_done}
use Rattle.leaves.proofs.blocks.total.Goals as goal

pub add_pairs-requires : goal.add_pairs-requires
add_pairs-requires c = adding_all _ c.requires

pub returns : goal.returns
returns c = adding_done _ c.add_pairs.ensures
