use Rattle.area.specs.Area.{area_ghosts}
use Rattle.area.proofs.read.ghosts.Goals as goal

pub returns : goal.returns
unfolding area_ghosts
returns c = c.read_u32.ensures
