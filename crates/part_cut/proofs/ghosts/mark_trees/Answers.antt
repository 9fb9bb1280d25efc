use Rattle.part_cut.proofs.Marking.{trees_start, tree_there, faces_fit, tree_marked, trees_end}
use native.Mathlib.Omega.{arith}
use Rattle.part_cut.proofs.ghosts.mark_trees.Goals as goal

pub loop-k-init : goal.loop-k-init
loop-k-init c = trees_start _ _ _ _

pub shape_of-requires-in-loop-k : goal.shape_of-requires-in-loop-k
shape_of-requires-in-loop-k c =
    let pre = c.requires in
    let loop = c.loop-k in
    let loop-test = c.loop-k-test in
    tree_there _ _ _ pre loop.auto.k loop-test.true c.tree_at-at.ensures

pub mark_faces-requires : goal.mark_faces-requires
mark_faces-requires c =
    let pre = c.requires in
    let loop = c.loop-k in
    let loop-test = c.loop-k-test in
    let tree-at = c.tree_at-at in
    let shape_of = c.shape_of in
    let face-count = c.face_count-faces in
    faces_fit _ _ _ pre loop.auto.k loop-test.true tree-at.ensures shape_of.ensures face-count.ensures.0 loop.invariant face-count.ensures.1

pub loop-k-preserved : goal.loop-k-preserved
loop-k-preserved c =
    let loop = c.loop-k in
    let pre = c.requires in
    let loop-test = c.loop-k-test in
    let tree-at = c.tree_at-at in
    let shape_of = c.shape_of in
    let face-count = c.face_count-faces in
    let mark-faces = c.mark_faces in
    tree_marked _ _ _ pre loop.auto.k loop-test.true tree-at.ensures shape_of.ensures face-count.ensures.0 loop.invariant mark-faces.ensures

pub returns : goal.returns
returns c = trees_end _ _ _ c.loop-k.invariant (c.loop-k.auto.k-end c.requires.range) (omega arith)
