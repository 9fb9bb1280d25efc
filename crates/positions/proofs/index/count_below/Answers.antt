use Rattle.positions.proofs.Positions.{members_all}
use Rattle.positions.proofs.index.count_below.Goals as goal

pub returns-then-marks-k : goal.returns-then-marks-k
returns-then-marks-k c = members_all c.requires _ c.if-marks-k.true
