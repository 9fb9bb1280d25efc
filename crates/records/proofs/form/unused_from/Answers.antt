use mathlib.Core.Path.{sym, ◌∙◌}
use native.Mathlib.Omega.{arith}
use Rattle.encoding.proofs.Below.{all_more, all_fails, all_to}
use Rattle.records.proofs.Forms.{unused_first, unused_is}
use borrow.Author.Rules.{rules}
use Rattle.records.proofs.form.unused_from.Goals as goal

pub loop-face-init : goal.loop-face-init
loop-face-init c = (search rules, unused_first _ _)

pub returns-then-not-unused_ok : goal.returns-then-not-unused_ok
returns-then-not-unused_ok c =
    let loop-test = c.loop-face-test in
    let loop = c.loop-face in
    let unused-ok = c.unused_ok in
    sym (all_fails _ _ _ loop-test.true (unused_is _ _ _ loop.invariant.0 unused-ok.ensures ∙ c.if-not-unused_ok.true))

pub loop-face-preserved : goal.loop-face-preserved
loop-face-preserved c =
    let loop = c.loop-face in
    let unused-ok = c.unused_ok in
    (omega arith, all_more _ _ loop.invariant.1 (unused_is _ _ _ loop.invariant.0 unused-ok.ensures ∙ c.if-not-unused_ok.false))

pub returns : goal.returns
returns c = sym (all_to _ _ _ (c.loop-face.auto.face-end c.requires.1) (omega arith) c.loop-face.invariant.1)
