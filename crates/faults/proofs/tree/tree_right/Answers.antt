use Rattle.mesh.proofs.Checking.{tree_read}
use Rattle.faults.proofs.tree.tree_right.Goals as goal

pub returns : goal.returns
returns c =
    let tree-at = c.tree_at-at in
    let shape_of = c.shape_of-shape in
    let in_form_call = c.in_form in
    let number_of_call = c.number_of in
    let dimension_of_call = c.dimension_of in
    let face-count = c.face_count in
    tree_read _ _ _ _ tree-at.ensures shape_of.ensures in_form_call.ensures number_of_call.ensures dimension_of_call.ensures face-count.ensures.0 c.faces_right.ensures
