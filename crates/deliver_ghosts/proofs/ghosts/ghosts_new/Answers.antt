use Rattle.deliver_ghosts.proofs.Rooms.{layout_header}
use Rattle.deliver_ghosts.proofs.ghosts.ghosts_new.Goals as goal

pub ghost_count-ghosts-requires : goal.ghost_count-ghosts-requires
ghost_count-ghosts-requires c = layout_header _ c.requires.0.laid
