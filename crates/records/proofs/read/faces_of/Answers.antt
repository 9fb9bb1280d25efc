use Rattle.records.specs.Record.{faces_of}
use Rattle.records.proofs.read.faces_of.Goals as goal

pub returns : goal.returns
unfolding faces_of
returns c = (rw (c.faces_in.ensures.0, c.dimension_of.ensures, c.shape_of.ensures), c.faces_in.ensures.1)
