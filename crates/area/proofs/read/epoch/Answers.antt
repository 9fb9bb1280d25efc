use Rattle.area.specs.Area.{area_epoch}
use Rattle.area.proofs.read.epoch.Goals as goal

pub returns : goal.returns
unfolding area_epoch
returns c = c.read_u32.ensures
