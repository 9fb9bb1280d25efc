use Rattle.message.proofs.Checking.{record_read}
use Rattle.message.proofs.layout.record_laid.Goals as goal

pub returns : goal.returns
returns c =
    let pre = c.requires in
    let shape_of = c.shape_of-shape in
    let number_of_call = c.number_of-number in
    let in_form_call = c.in_form in
    let dimension_of_call = c.dimension_of in
    let face-count = c.face_count in
    record_read _ _ pre.1 pre.2 shape_of.ensures number_of_call.ensures in_form_call.ensures dimension_of_call.ensures face-count.ensures.0 c.neighbours_below.ensures
