use Rattle.positions.proofs.Positions.{position_near}
use Rattle.positions.proofs.index.find_near.Goals as goal

pub returns-then-read_u32-k : goal.returns-then-read_u32-k
returns-then-read_u32-k c =
    let pre = c.requires in
    position_near pre.0 c.position_or-near.ensures c.read_u32.ensures c.if-read_u32-k.true
