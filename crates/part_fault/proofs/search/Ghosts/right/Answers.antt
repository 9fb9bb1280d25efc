use Rattle.part_fault.proofs.Passing.{ghost_passed}
use Rattle.part_fault.proofs.search.Ghosts.right.Goals as goal

pub returns : goal.returns
returns c =
    let pre = c.requires in
    let ghost_at = c.ghost_at-at in
    let number_of_call = c.number_of in
    let shape_of = c.shape_of-shape in
    let face-count = c.face_count-faces in
    let in_form_call = c.in_form in
    let dimension_of_call = c.dimension_of in
    let beside = c.beside in
    ghost_passed _ _ pre.0.known _ pre.1 ghost_at.ensures number_of_call.ensures shape_of.ensures face-count.ensures.0 in_form_call.ensures dimension_of_call.ensures beside.ensures c.faces_right.ensures
