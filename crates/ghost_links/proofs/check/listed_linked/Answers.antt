use Rattle.ghost_links.proofs.Checking.{not_listed, listed_is}
use Rattle.mesh.proofs.Packing.{left_all, left_none, left_next, next_digit, next_passes}
use Rattle.encoding.proofs.Below.{all_fails}
use native.Mathlib.Omega.{arith}
use mathlib.Core.Path.{sym, ◌∙◌}
use Rattle.ghost_links.proofs.check.listed_linked.Goals as goal

pub loop-left-init : goal.loop-left-init
loop-left-init c = left_all _ _ _ c.requires.3

pub overflow_sub-left : goal.overflow_sub-left
overflow_sub-left c = omega (arith, next_digit _ _ _ (not_listed _ _ _ _) c.loop-left.invariant c.loop-left-test.true c.requires.2)

pub face_linked-requires : goal.face_linked-requires
face_linked-requires c =
    let loop = c.loop-left in
    let pre = c.requires in
    let next = next_passes _ _ _ (not_listed _ _ _ _) loop.invariant c.loop-left-test.true pre.2 in (pre.0, pre.1, omega (arith, next.1, pre.2), next.0)

pub returns-then-not-face_linked : goal.returns-then-not-face_linked
returns-then-not-face_linked c =
    let loop = c.loop-left in
    let loop-test = c.loop-left-test in
    let pre = c.requires in
    let face_linked = c.face_linked in
    let next = next_passes _ _ _ (not_listed _ _ _ _) loop.invariant loop-test.true pre.2 in sym (all_fails _ _ _ next.1 (listed_is _ _ _ _ _ next.0 ∙ sym face_linked.ensures ∙ c.if-not-face_linked.true))

pub loop-left-preserved : goal.loop-left-preserved
loop-left-preserved c =
    let loop = c.loop-left in
    let loop-test = c.loop-left-test in
    let pre = c.requires in
    let face_linked = c.face_linked in
    let next = next_passes _ _ _ (not_listed _ _ _ _) loop.invariant loop-test.true pre.2 in left_next _ _ _ (not_listed _ _ _ _) loop.invariant loop-test.true pre.2 (listed_is _ _ _ _ _ next.0 ∙ sym face_linked.ensures ∙ c.if-not-face_linked.false)

pub returns : goal.returns
returns c = sym (left_none _ _ _ (not_listed _ _ _ _) c.loop-left.invariant (omega arith))
