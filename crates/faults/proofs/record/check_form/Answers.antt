use Rattle.faults.proofs.Records.{boundary_wrong, boundary_right, marked, unmarked}
use Rattle.faults.proofs.record.check_form.Goals as goal

pub returns-then-n-own : goal.returns-then-n-own
returns-then-n-own c =
    let neighbour_of_call = c.neighbour_of-n in
    let has-face = c.has_face in
    let if1 = c.if-has_face in
    let face-of = c.face_of in
    let orientation_of_call = c.orientation_of in
    boundary_wrong _ _ _ neighbour_of_call.ensures has-face.ensures if1.true face-of.ensures.0 orientation_of_call.ensures c.if-n-own.true

pub returns-then-has_face : goal.returns-then-has_face
returns-then-has_face c =
    let neighbour_of_call = c.neighbour_of-n in
    let has-face = c.has_face in
    let if1 = c.if-has_face in
    let face-of = c.face_of in
    let orientation_of_call = c.orientation_of in
    boundary_right _ _ _ neighbour_of_call.ensures has-face.ensures if1.true face-of.ensures.0 orientation_of_call.ensures c.if-n-own.false

pub returns-then-n-code_of : goal.returns-then-n-code_of
returns-then-n-code_of c =
    let neighbour_of_call = c.neighbour_of-n in
    let has-face = c.has_face in
    let if1 = c.if-has_face in
    let code_of_call = c.code_of in
    marked _ _ _ neighbour_of_call.ensures has-face.ensures if1.false code_of_call.ensures c.if-n-code_of.true

pub returns : goal.returns
returns c =
    let neighbour_of_call = c.neighbour_of-n in
    let has-face = c.has_face in
    let if1 = c.if-has_face in
    let code_of_call = c.code_of in
    unmarked _ _ _ neighbour_of_call.ensures has-face.ensures if1.false code_of_call.ensures c.if-n-code_of.false
