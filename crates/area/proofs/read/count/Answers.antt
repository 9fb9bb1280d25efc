use Rattle.area.specs.Area.{area_count}
use Rattle.area.proofs.read.count.Goals as goal

pub returns : goal.returns
unfolding area_count
returns c = c.read_u32.ensures
