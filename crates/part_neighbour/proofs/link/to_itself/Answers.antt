use Rattle.records.specs.Record.{to_itself}
use Rattle.part_neighbour.proofs.link.to_itself.Goals as goal

pub returns : goal.returns
unfolding to_itself
returns c = rw (c.neighbour_of.ensures, c.face_of.ensures.0)
