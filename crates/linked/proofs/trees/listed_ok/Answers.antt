use mathlib.Core.Path.{sym, ◌∙◌}
use native.Mathlib.Omega.{arith}
use Rattle.encoding.proofs.Below.{all_fails}
use Rattle.mesh.proofs.Packing.{left_all, left_none, left_next, next_digit, next_passes}
use Rattle.linked.proofs.Reading.{not_listed, listed_fits}
use Rattle.linked.proofs.trees.listed_ok.Goals as goal

pub loop-left-init : goal.loop-left-init
loop-left-init c = left_all _ _ _ c.requires.3

pub overflow_sub-left : goal.overflow_sub-left
overflow_sub-left c = omega (arith, next_digit _ _ _ (not_listed _ _ _) c.loop-left.invariant c.loop-left-test.true c.requires.2)

pub face_ok-requires : goal.face_ok-requires
face_ok-requires c =
    let loop = c.loop-left in
    let pre = c.requires in
    let next = next_passes _ _ _ (not_listed _ _ _) loop.invariant c.loop-left-test.true pre.2 in (pre.0, pre.1, omega (arith, next.1, pre.2))

pub returns-then-not-face_ok : goal.returns-then-not-face_ok
returns-then-not-face_ok c =
    let loop = c.loop-left in
    let loop-test = c.loop-left-test in
    let pre = c.requires in
    let face-ok = c.face_ok in
    let next = next_passes _ _ _ (not_listed _ _ _) loop.invariant loop-test.true pre.2 in sym (all_fails _ _ _ next.1 (listed_fits _ _ _ _ next.0 ∙ sym face-ok.ensures ∙ c.if-not-face_ok.true))

pub loop-left-preserved : goal.loop-left-preserved
loop-left-preserved c =
    let loop = c.loop-left in
    let loop-test = c.loop-left-test in
    let pre = c.requires in
    let face-ok = c.face_ok in
    let next = next_passes _ _ _ (not_listed _ _ _) loop.invariant loop-test.true pre.2 in left_next _ _ _ (not_listed _ _ _) loop.invariant loop-test.true pre.2 (listed_fits _ _ _ _ next.0 ∙ sym face-ok.ensures ∙ c.if-not-face_ok.false)

pub returns : goal.returns
returns c = sym (left_none _ _ _ (not_listed _ _ _) c.loop-left.invariant (omega arith))
