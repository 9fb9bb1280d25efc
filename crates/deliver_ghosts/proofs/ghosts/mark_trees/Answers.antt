use native.Mathlib.Omega.{arith}
use Rattle.deliver_ghosts.proofs.Marking.{trees_start, trees_more, faces_fit, trees_end}
use Rattle.deliver_ghosts.proofs.Rooms.{layout_header, tree_room}
use Rattle.deliver_ghosts.proofs.ghosts.mark_trees.Goals as goal

pub tree_count-i-end-requires : goal.tree_count-i-end-requires
tree_count-i-end-requires c = layout_header _ c.requires.laid

pub loop-i-init : goal.loop-i-init
loop-i-init c = trees_start _ _

pub shape_of-requires-in-loop-i : goal.shape_of-requires-in-loop-i
shape_of-requires-in-loop-i c =
    let pre = c.requires in
    let tree_count_call = c.tree_count-i-end in
    let loop-test = c.loop-i-test in
    tree_room _ pre.laid tree_count_call.ensures loop-test.true c.tree_at-at.ensures

pub mark_faces-requires : goal.mark_faces-requires
mark_faces-requires c =
    let tree-at = c.tree_at-at in
    let shape_of = c.shape_of in
    let face-count = c.face_count-faces in
    let pre = c.requires in
    let loop = c.loop-i in
    let tree_count_call = c.tree_count-i-end in
    let loop-test = c.loop-i-test in
    faces_fit _ _ tree-at.ensures shape_of.ensures face-count.ensures.0 pre loop.invariant tree_count_call.ensures loop-test.true face-count.ensures.1

pub loop-i-preserved : goal.loop-i-preserved
loop-i-preserved c =
    let tree-at = c.tree_at-at in
    let shape_of = c.shape_of in
    let face-count = c.face_count-faces in
    let loop = c.loop-i in
    let mark-faces = c.mark_faces in
    trees_more _ _ tree-at.ensures shape_of.ensures face-count.ensures.0 loop.invariant mark-faces.ensures

pub shape_of-marks : goal.shape_of-marks
shape_of-marks c = c.loop-i.invariant.same_length

pub returns : goal.returns
returns c = trees_end _ c.loop-i.invariant c.tree_count-i-end.ensures c.loop-i.auto.i-end (omega arith)
