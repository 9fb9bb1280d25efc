use Rattle.area.specs.Area.{area_rank}
use Rattle.area.proofs.read.rank.Goals as goal

pub returns : goal.returns
unfolding area_rank
returns c = c.read_u32.ensures
