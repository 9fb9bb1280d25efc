use Rattle.area.specs.Area.{area_k}
use Rattle.area.proofs.read.trees.Goals as goal

pub returns : goal.returns
unfolding area_k
returns c = c.read_u32.ensures
