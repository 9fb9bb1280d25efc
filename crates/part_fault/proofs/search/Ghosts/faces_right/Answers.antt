use mathlib.Core.Path.{sym, ◌∙◌}
use native.Mathlib.Omega.{arith}
use Rattle.encoding.specs.Below.{all_below}
use Rattle.encoding.proofs.Below.{all_more, all_fails, all_to}
use borrow.Author.Rules.{rules}
use Rattle.part_fault.proofs.search.Ghosts.faces_right.Goals as goal

pub loop-face-init : goal.loop-face-init
unfolding all_below
loop-face-init c = search rules

pub returns-then-not-face_right : goal.returns-then-not-face_right
returns-then-not-face_right c = sym (all_fails _ _ _ c.loop-face-test.true (sym c.face_right.ensures ∙ c.if-not-face_right.true))

pub loop-face-preserved : goal.loop-face-preserved
loop-face-preserved c = all_more _ _ c.loop-face.invariant (sym c.face_right.ensures ∙ c.if-not-face_right.false)

pub returns : goal.returns
returns c = sym (all_to _ _ _ c.loop-face.auto.face-end (omega arith) c.loop-face.invariant)
