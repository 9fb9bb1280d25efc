use Rattle.mesh.specs.Link.{same_corners}
use Rattle.faults.proofs.record.same_corners.Goals as goal

pub returns : goal.returns
unfolding same_corners
returns c =
    let shape_of = c.shape_of in
    let shape-of2 = c.shape_of-2 in
    let face-of = c.face_of in
    let corners = c.corners in
    simp (← shape_of.ensures, ← shape-of2.ensures, ← face-of.ensures.0, ← corners.ensures, ← c.corners-2.ensures)
