use mathlib.Core.Path.{refl, sym, ◌∙◌}
use native.Mathlib.Omega.{arith}
use Rattle.encoding.specs.Below.{all_below}
use Rattle.encoding.proofs.Below.{all_more, all_fails, all_to}
use Rattle.records.proofs.form.faces_ok.Goals as goal

pub loop-face-init : goal.loop-face-init
unfolding all_below
loop-face-init c = refl

pub returns-then-not-face_ok : goal.returns-then-not-face_ok
returns-then-not-face_ok c = sym (all_fails _ _ _ c.loop-face-test.true (sym c.face_ok.ensures ∙ c.if-not-face_ok.true))

pub loop-face-preserved : goal.loop-face-preserved
loop-face-preserved c = all_more _ _ c.loop-face.invariant (sym c.face_ok.ensures ∙ c.if-not-face_ok.false)

pub returns : goal.returns
returns c = sym (all_to _ _ _ c.loop-face.auto.face-end (omega arith) c.loop-face.invariant)
