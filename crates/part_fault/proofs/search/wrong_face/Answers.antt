use mathlib.Core.Path.{refl, sym}
use native.Mathlib.Omega.{arith}
use Rattle.faults.proofs.Positive.{kind_positive}
use Rattle.faults.proofs.Firsts.{quiet_start, quiet_more, quiet_to, face_read, face_none}
use Rattle.part_fault.proofs.search.wrong_face.Goals as goal

pub loop-face-init : goal.loop-face-init
loop-face-init c = quiet_start _

pub returns-in-Err : goal.returns-in-Err
returns-in-Err c = face_read _ _ c.loop-face-test.true c.loop-face.invariant c.in-Err.ensures (kind_positive _)

pub loop-face-preserved : goal.loop-face-preserved
loop-face-preserved c = quiet_more _ _ c.loop-face.invariant c.in_default.ensures refl

pub returns : goal.returns
returns c = sym (face_none _ (quiet_to _ _ _ c.loop-face.auto.face-end (omega arith) c.loop-face.invariant))
