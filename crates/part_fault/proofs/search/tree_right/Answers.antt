use Rattle.part_fault.proofs.Passing.{tree_passed}
use Rattle.part_fault.proofs.search.tree_right.Goals as goal

pub returns : goal.returns
returns c =
    let pre = c.requires in
    let tree-at = c.tree_at-at in
    let tree-numbered = c.tree_numbered in
    let shape_of = c.shape_of-shape in
    let in_form_call = c.in_form in
    let dimension_of_call = c.dimension_of in
    let face-count = c.face_count in
    tree_passed _ _ pre.0 _ tree-at.ensures tree-numbered.ensures shape_of.ensures in_form_call.ensures dimension_of_call.ensures face-count.ensures.0
    c.tree_faces_right.ensures
