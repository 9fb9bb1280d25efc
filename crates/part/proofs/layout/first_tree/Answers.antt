use Rattle.part.specs.Part.{part_first}
use Rattle.part.proofs.layout.first_tree.Goals as goal

pub returns : goal.returns
unfolding part_first
returns c = c.read_u32.ensures
