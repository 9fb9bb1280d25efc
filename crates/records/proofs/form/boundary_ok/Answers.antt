use Rattle.records.proofs.Forms.{boundary_test}
use Prim.Native.Nat.{ℕ}
use lib.Dec.{eqb}
use mathlib.Core.Path.{sym, ap, ◌∙◌}
use Rattle.records.specs.Record.{boundary_ok, to_itself}
use borrow.Author.Tests.{eq-eqb, ne_eqb}
use Rattle.records.proofs.form.boundary_ok.Goals as goal

pub returns-then-neighbour_of-own : goal.returns-then-neighbour_of-own
unfolding boundary_ok to_itself
returns-then-neighbour_of-own c = simp (← c.neighbour_of.ensures, ne_eqb _ _ c.if-neighbour_of-own.true)

pub returns-then-face_of-face : goal.returns-then-face_of-face
unfolding boundary_ok to_itself
returns-then-face_of-face c =
    let neighbour_of_lem = c.neighbour_of in
    let if1 = c.if-neighbour_of-own in
    let face-of = c.face_of in
    simp (← neighbour_of_lem.ensures, eq-eqb _ _ if1.false, ← face-of.ensures.0, ne_eqb _ _ c.if-face_of-face.true)

pub returns : goal.returns
returns c =
    let neighbour_of_lem = c.neighbour_of in
    let if1 = c.if-neighbour_of-own in
    let face-of = c.face_of in
    let if2 = c.if-face_of-face in
    ap (λ (n : ℕ). eqb n 0) c.orientation_of.ensures ∙ sym (boundary_test _ _ _ (sym neighbour_of_lem.ensures ∙ if1.false) (sym face-of.ensures.0 ∙ if2.false))
