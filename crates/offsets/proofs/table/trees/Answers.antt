use Rattle.offsets.proofs.OnePass.{trees_read}
use Rattle.offsets.proofs.table.trees.Goals as goal

pub returns : goal.returns
returns c = trees_read _ _ _ c.ranks.ensures.0 c.entry.ensures
