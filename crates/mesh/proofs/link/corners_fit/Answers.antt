use Rattle.mesh.specs.Means.{corners_fit}
use Rattle.mesh.proofs.ByDimension.{both_hexahedra, both_tetrahedra}
use Rattle.mesh.proofs.link.corners_fit.Goals as goal

pub returns-then-shape-other : goal.returns-then-shape-other
returns-then-shape-other c = both_hexahedra _ _ _ _ _ c.if-shape-other.true c.requires

pub returns-then-shape-other-2 : goal.returns-then-shape-other-2
returns-then-shape-other-2 c = both_tetrahedra _ _ _ _ _ c.if-shape-other-2.true

pub returns : goal.returns
unfolding corners_fit
returns c = rw (c.corners-own.ensures, c.corners.ensures)
