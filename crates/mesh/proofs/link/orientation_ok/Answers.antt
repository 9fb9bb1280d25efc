use Rattle.mesh.specs.Link.{orientation_ok}
use Rattle.mesh.proofs.link.orientation_ok.Goals as goal

pub returns : goal.returns
unfolding orientation_ok
returns c = rw (c.orientation_of.ensures, c.corners.ensures, c.shape_of.ensures)
