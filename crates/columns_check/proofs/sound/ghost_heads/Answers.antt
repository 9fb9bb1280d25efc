use mathlib.Core.Path.{sym, ◌∙◌}
use native.Mathlib.Omega.{arith}
use Rattle.encoding.specs.Below.{all_below}
use Rattle.encoding.proofs.Below.{all_more, all_fails, all_to}
use Rattle.columns_check.proofs.Finding.{heads_both}
use borrow.Author.Rules.{rules}
use Rattle.columns_check.proofs.sound.ghost_heads.Goals as goal

pub loop-j-init : goal.loop-j-init
unfolding all_below
loop-j-init c = search rules

pub returns-then-not-head_ok-beside : goal.returns-then-not-head_ok-beside
returns-then-not-head_ok-beside c =
    let loop-test = c.loop-j-test in
    let head_ok = c.head_ok in
    let byte = c.byte in
    let face-count = c.face_count-faces in
    let beside = c.beside in
    sym (all_fails _ _ _ loop-test.true (heads_both _ _ _ _ _ _ _ head_ok.ensures byte.ensures.0 face-count.ensures.0 beside.ensures ∙ c.if-not-head_ok-beside.true))

pub loop-j-preserved : goal.loop-j-preserved
loop-j-preserved c =
    let loop = c.loop-j in
    let head_ok = c.head_ok in
    let byte = c.byte in
    let face-count = c.face_count-faces in
    let beside = c.beside in
    all_more _ _ loop.invariant (heads_both _ _ _ _ _ _ _ head_ok.ensures byte.ensures.0 face-count.ensures.0 beside.ensures ∙ c.if-not-head_ok-beside.false)

pub returns : goal.returns
returns c = sym (all_to _ _ _ c.loop-j.auto.j-end (omega arith) c.loop-j.invariant)
