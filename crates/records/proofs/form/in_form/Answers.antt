use Rattle.records.specs.Shape.{face_count}
use mathlib.Core.Path.{sym, ap, ◌∙◌}
use Rattle.records.proofs.Forms.{form_fails, form_passes, faces_elsewhere}
use Rattle.records.proofs.form.in_form.Goals as goal

pub returns-then-not-shape_ok-zeros_ok : goal.returns-then-not-shape_ok-zeros_ok
returns-then-not-shape_ok-zeros_ok c =
    let shape_of = c.shape_of in
    let shape-ok = c.shape_ok in
    let zeros-ok = c.zeros_ok in
    let region_ok_lem = c.region_ok in
    form_fails _ _ shape_of.ensures shape-ok.ensures zeros-ok.ensures region_ok_lem.ensures (c.if-not-shape_ok-zeros_ok.true)

pub returns-then-leads_to : goal.returns-then-leads_to
returns-then-leads_to c =
    let shape_of = c.shape_of in
    let shape-ok = c.shape_ok in
    let zeros-ok = c.zeros_ok in
    let region_ok_lem = c.region_ok in
    let if1 = c.if-not-shape_ok-zeros_ok in
    form_passes _ _ shape_of.ensures shape-ok.ensures zeros-ok.ensures region_ok_lem.ensures (if1.false) c.faces_ok.ensures

pub returns : goal.returns
returns c =
    let shape_of = c.shape_of in
    let shape-ok = c.shape_ok in
    let zeros-ok = c.zeros_ok in
    let region_ok_lem = c.region_ok in
    let if1 = c.if-not-shape_ok-zeros_ok in
    let face-count = c.face_count in
    let shape-of2 = c.shape_of-2 in
    let leads-to = c.leads_to in
    let if2 = c.if-leads_to in
    form_passes _ _ shape_of.ensures shape-ok.ensures zeros-ok.ensures region_ok_lem.ensures (if1.false) (faces_elsewhere _ _ (face-count.ensures.0 ∙ ap face_count shape-of2.ensures) (sym leads-to.ensures ∙ if2.false) c.unused_from.ensures)
