use Rattle.part.specs.Part.{part_count}
use Rattle.part.proofs.layout.tree_count.Goals as goal

pub returns : goal.returns
unfolding part_count
returns c = c.read_u32.ensures
