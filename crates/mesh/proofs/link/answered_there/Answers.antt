use Rattle.mesh.specs.Means.{answered_there}
use Rattle.mesh.proofs.link.answered_there.Goals as goal

pub returns : goal.returns
unfolding answered_there
returns c = rw (c.neighbour_of.ensures, c.code_of.ensures)
