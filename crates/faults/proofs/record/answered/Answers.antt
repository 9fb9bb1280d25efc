use Rattle.mesh.specs.Link.{answered}
use Rattle.faults.proofs.record.answered.Goals as goal

pub returns : goal.returns
unfolding answered
returns c =
    let face-of = c.face_of-there in
    let neighbour_of_call = c.neighbour_of in
    let face-of2 = c.face_of in
    let orientation_of_call = c.orientation_of in
    simp (← face-of.ensures.0, ← neighbour_of_call.ensures, ← face-of2.ensures.0, ← orientation_of_call.ensures, ← c.orientation_of-2.ensures)
