use Rattle.part.specs.Part.{part_dimension}
use Rattle.part.proofs.layout.dimension.Goals as goal

pub returns : goal.returns
unfolding part_dimension
returns c = c.read_u32.ensures
