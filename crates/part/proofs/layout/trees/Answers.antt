use Rattle.part.specs.Part.{part_k}
use Rattle.part.proofs.layout.trees.Goals as goal

pub returns : goal.returns
unfolding part_k
returns c = c.read_u32.ensures
