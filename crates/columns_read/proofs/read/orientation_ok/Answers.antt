use Rattle.columns_read.proofs.Reading.{orientation_read}
use Rattle.columns_read.proofs.read.orientation_ok.Goals as goal

pub returns : goal.returns
returns c =
    let byte = c.byte-shape in
    let dimension_of_call = c.dimension_of in
    let faces_in_call = c.faces_in-faces in
    let byte2 = c.byte in
    orientation_read _ _ byte.ensures.0 dimension_of_call.ensures faces_in_call.ensures.0 byte2.ensures.0 c.corners.ensures
