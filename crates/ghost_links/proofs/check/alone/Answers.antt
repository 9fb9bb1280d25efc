use Rattle.ghost_links.proofs.Forms.{alone_read}
use Rattle.ghost_links.proofs.check.alone.Goals as goal

pub returns : goal.returns
returns c =
    let shape_of = c.shape_of-shape in
    let shape-ok = c.shape_ok in
    let zeros-ok = c.zeros_ok in
    let region_ok_call = c.region_ok in
    let face-count = c.face_count in
    let unused_from_call = c.unused_from in
    alone_read _ _ shape_of.ensures shape-ok.ensures zeros-ok.ensures region_ok_call.ensures face-count.ensures.0 unused_from_call.ensures c.dimension_of.ensures
