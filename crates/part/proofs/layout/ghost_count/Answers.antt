use Rattle.part.specs.Part.{part_ghost_count}
use Rattle.part.proofs.layout.ghost_count.Goals as goal

pub returns : goal.returns
unfolding part_ghost_count
returns c = c.read_u32.ensures
