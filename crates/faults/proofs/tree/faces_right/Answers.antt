use mathlib.Core.Path.{sym, ◌∙◌}
use native.Mathlib.Omega.{arith}
use Rattle.encoding.specs.Below.{all_below}
use Rattle.encoding.proofs.Below.{all_more, all_fails, all_to}
use borrow.Author.Rules.{rules}
use Rattle.faults.proofs.tree.faces_right.Goals as goal

pub loop-at-init : goal.loop-at-init
unfolding all_below
loop-at-init c = search rules

pub returns-then-not-face_right : goal.returns-then-not-face_right
returns-then-not-face_right c = sym (all_fails _ _ _ c.loop-at-test.true (sym c.face_right.ensures ∙ c.if-not-face_right.true))

pub loop-at-preserved : goal.loop-at-preserved
loop-at-preserved c = all_more _ _ c.loop-at.invariant (sym c.face_right.ensures ∙ c.if-not-face_right.false)

pub returns : goal.returns
returns c = sym (all_to _ _ _ c.loop-at.auto.at-end (omega arith) c.loop-at.invariant)
