use Rattle.records.proofs.Forms.{alike_read}
use Rattle.records.proofs.form.alike.Goals as goal

pub returns : goal.returns
returns c =
    let number_of_lem = c.number_of in
    let shape_of = c.shape_of in
    let zeros-ok = c.zeros_ok in
    let region_ok_lem = c.region_ok in
    alike_read _ _ _ _ number_of_lem.ensures shape_of.ensures zeros-ok.ensures region_ok_lem.ensures c.unused_from.ensures
