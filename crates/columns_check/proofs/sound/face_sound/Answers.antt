use native.Mathlib.Omega.{arith}
use Rattle.columns_check.proofs.Summing.{face_trees, face_ghosts, face_both}
use Rattle.columns_check.proofs.sound.face_sound.Goals as goal

pub returns-in_err-own : goal.returns-in_err-own
returns-in_err-own c = rw c.from_residual.ensures (face_trees _ _ _ _ _ _ _ _ _ c.in_err-own.ensures)

pub returns-in_err-others : goal.returns-in_err-others
returns-in_err-others c = rw c.from_residual-in_err-others.ensures (face_ghosts _ _ _ _ _ _ _ _ _ c.in_err-others.ensures)

pub returns : goal.returns
returns c = face_both _ _ _ _ _ _ _ _ _ c.in_ok-own.ensures c.in_ok-others.ensures

pub overflow_add-result : goal.overflow_add-result
overflow_add-result c = omega (arith, c.in_ok-own.ensures.1.few.0, c.in_ok-others.ensures.1.few.0)

pub overflow_add-result-2 : goal.overflow_add-result-2
overflow_add-result-2 c = omega (arith, c.in_ok-own.ensures.1.few.1, c.in_ok-others.ensures.1.few.1)
