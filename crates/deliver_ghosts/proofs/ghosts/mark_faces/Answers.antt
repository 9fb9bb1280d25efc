use native.Mathlib.Omega.{arith}
use Rattle.deliver_ghosts.proofs.Marking.{faces_start, faces_more, faces_end}
use Rattle.deliver_ghosts.proofs.ghosts.mark_faces.Goals as goal

pub loop-face-init : goal.loop-face-init
loop-face-init c = faces_start _ _

pub add_member-requires : goal.add_member-requires
add_member-requires c =
    let pre = c.requires in
    let loop-test = c.loop-face-test in
    let neighbour_of_call = c.neighbour_of-k in
    let loop = c.loop-face in
    omega (arith, pre.low _ loop-test.true, neighbour_of_call.ensures, loop.invariant.same_length)

pub loop-face-preserved : goal.loop-face-preserved
loop-face-preserved c =
    let loop = c.loop-face in
    let neighbour_of_call = c.neighbour_of-k in
    let pre = c.requires in
    let loop-test = c.loop-face-test in
    let add-member = c.add_member in
    faces_more _ _ loop.invariant neighbour_of_call.ensures (pre.low _ loop-test.true) add-member.ensures

pub shape_of-marks : goal.shape_of-marks
shape_of-marks c = c.loop-face.invariant.same_length

pub returns : goal.returns
returns c = faces_end _ c.loop-face.invariant c.loop-face.auto.face-end (omega arith)
