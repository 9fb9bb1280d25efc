use Rattle.deliver_ghosts.proofs.Marking.{held_past, held_read}
use Rattle.deliver_ghosts.proofs.ghosts.is_held.Goals as goal

pub returns-then-count-position : goal.returns-then-count-position
returns-then-count-position c = held_past _ _ _ c.requires _ c.find_ghost-position.ensures.0 c.if-count-position.true

pub returns : goal.returns
returns c = held_read _ _ _ c.requires _ c.find_ghost-position.ensures.0 c.if-count-position.false c.read_u32.ensures
