use Rattle.offsets.specs.Table.{holds}
use Rattle.offsets.proofs.table.holds.Goals as goal

pub returns : goal.returns
unfolding holds
returns c = rw (c.first_tree.ensures, c.end_tree.ensures)
