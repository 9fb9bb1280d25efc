use Rattle.records.specs.Means.{face_form}
use borrow.Author.Tests.{lt-ltb, le-ltb}
use Rattle.records.proofs.form.face_ok.Goals as goal

pub returns-then-face-face_count : goal.returns-then-face-face_count
unfolding face_form
returns-then-face-face_count c =
    let shape_of = c.shape_of in
    let face-count = c.face_count in
    let if1 = c.if-face-face_count in
    simp (← shape_of.ensures, ← face-count.ensures.0, lt-ltb _ _ if1.true, ← c.boundary_ok.ensures)

pub returns : goal.returns
unfolding face_form
returns c =
    let shape_of = c.shape_of in
    let face-count = c.face_count in
    let if1 = c.if-face-face_count in
    simp (← shape_of.ensures, ← face-count.ensures.0, le-ltb _ _ if1.false, ← c.unused_ok.ensures)
