use Rattle.area.specs.Area.{area_p}
use Rattle.area.proofs.read.ranks.Goals as goal

pub returns : goal.returns
unfolding area_p
returns c = c.read_u32.ensures
