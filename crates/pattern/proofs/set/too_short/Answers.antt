use Rattle.pattern.proofs.Windows.{room_most}
use Rattle.pattern.proofs.set.too_short.Goals as goal

pub returns-then-ranks-room : goal.returns-then-ranks-room
returns-then-ranks-room c = room_most _ _ _ _ c.ranks.ensures.0 c.if-ranks-room.true

pub returns : goal.returns
returns c = rw c.set_count.ensures.0
