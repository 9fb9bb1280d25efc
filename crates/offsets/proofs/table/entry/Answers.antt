use Rattle.offsets.specs.Table.{entry}
use Rattle.offsets.proofs.table.entry.Goals as goal

pub returns : goal.returns
unfolding entry
returns c = c.read_u64.ensures
