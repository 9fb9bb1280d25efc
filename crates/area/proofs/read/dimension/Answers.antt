use Rattle.area.specs.Area.{area_dimension}
use Rattle.area.proofs.read.dimension.Goals as goal

pub returns : goal.returns
unfolding area_dimension
returns c = c.read_u32.ensures
