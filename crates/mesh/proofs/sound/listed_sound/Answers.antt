use mathlib.Core.Path.{sym, ◌∙◌}
use native.Mathlib.Omega.{arith}
use Rattle.encoding.proofs.Below.{all_fails}
use Rattle.mesh.proofs.Packing.{left_all, left_none, left_next, next_digit, next_passes, not_listed_sound, listed_is}
use Rattle.mesh.proofs.sound.listed_sound.Goals as goal

pub loop-left-init : goal.loop-left-init
loop-left-init c = left_all _ _ _ c.requires.3

pub overflow_sub-left : goal.overflow_sub-left
overflow_sub-left c = omega (arith, next_digit _ _ _ (not_listed_sound _ _ _) c.loop-left.invariant c.loop-left-test.true c.requires.2)

pub face_sound-requires : goal.face_sound-requires
face_sound-requires c =
    let pre = c.requires in
    let next = next_passes _ _ _ (not_listed_sound _ _ _) c.loop-left.invariant c.loop-left-test.true pre.2 in
    (pre.0, pre.1, omega (arith, next.1, pre.2), next.0)

pub returns-then-not-face_sound : goal.returns-then-not-face_sound
returns-then-not-face_sound c =
    let next = next_passes _ _ _ (not_listed_sound _ _ _) c.loop-left.invariant c.loop-left-test.true c.requires.2 in
    sym (all_fails _ _ _ next.1 (listed_is _ _ _ _ next.0 ∙ sym c.face_sound.ensures ∙ c.if-not-face_sound.true))

pub loop-left-preserved : goal.loop-left-preserved
loop-left-preserved c =
    let inv = c.loop-left.invariant in
    let some = c.loop-left-test.true in
    let few = c.requires.2 in
    let next = next_passes _ _ _ (not_listed_sound _ _ _) inv some few in
    left_next _ _ _ (not_listed_sound _ _ _) inv some few (listed_is _ _ _ _ next.0 ∙ sym c.face_sound.ensures ∙ c.if-not-face_sound.false)

pub returns : goal.returns
returns c = sym (left_none _ _ _ (not_listed_sound _ _ _) c.loop-left.invariant (omega arith))
