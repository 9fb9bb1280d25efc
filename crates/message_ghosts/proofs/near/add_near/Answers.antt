use native.Mathlib.Omega.{arith}
use Rattle.part_cut.proofs.Marking.{trees_start, trees_end}
use Rattle.message_ghosts.proofs.Walking.{tree_there, faces_fit, tree_added}
use Rattle.message_ghosts.proofs.near.add_near.Goals as goal

pub loop-i-init : goal.loop-i-init
loop-i-init c = trees_start _ _ _ _

pub shape_of-requires-in-loop-i : goal.shape_of-requires-in-loop-i
shape_of-requires-in-loop-i c =
    let pre = c.requires in
    let loop = c.loop-i in
    let loop-test = c.loop-i-test in
    tree_there _ _ _ _ _ _ _ _ pre c.loop-i.auto.i loop-test.true c.tree_at-at.ensures

pub mark_faces-requires : goal.mark_faces-requires
mark_faces-requires c =
    let pre = c.requires in
    let loop = c.loop-i in
    let loop-test = c.loop-i-test in
    let tree-at = c.tree_at-at in
    let shape_of = c.shape_of in
    let face-count = c.face_count-faces in
    faces_fit _ _ _ _ _ _ _ _ pre c.loop-i.auto.i loop-test.true tree-at.ensures shape_of.ensures face-count.ensures.0 loop.invariant face-count.ensures.1

pub loop-i-preserved : goal.loop-i-preserved
loop-i-preserved c =
    let loop = c.loop-i in
    let pre = c.requires in
    let loop-test = c.loop-i-test in
    let tree-at = c.tree_at-at in
    let shape_of = c.shape_of in
    let face-count = c.face_count-faces in
    let mark-faces = c.mark_faces in
    tree_added _ _ _ _ _ _ _ _ pre c.loop-i.auto.i loop-test.true tree-at.ensures shape_of.ensures face-count.ensures.0 loop.invariant mark-faces.ensures

pub shape_of-near : goal.shape_of-near
shape_of-near c = c.loop-i.invariant.same_length

pub returns : goal.returns
returns c = trees_end _ _ _ c.loop-i.invariant (c.loop-i.auto.i-end c.requires.range) (omega arith)
