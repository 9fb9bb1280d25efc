use Prim.Native.Nat.{ℕ}
use lib.ListN.{length-replicate}
use Rattle.std.proofs.lemmas.Result.{err_from_is_err_and}
use native.Mathlib.Omega.{arith}
use Rattle.ele_mesh.proofs.Surveys.{length_fails, length_given}
use Rattle.ele_mesh.proofs.triangle_length.Goals as goal

pub survey-requires : goal.survey-requires
survey-requires c = (omega (arith, length-replicate {A = ℕ} 196608 0), record { hashed = omega (arith, length-replicate {A = ℕ} 65521 0); faces = omega (arith, length-replicate {A = ℕ} 196608 0) })

pub returns-in_err-s : goal.returns-in_err-s
returns-in_err-s c =
    let p = err_from_is_err_and c.from_residual.result c.from_residual.ensures.1 in
    rw (p.1, p.2) (length_fails _ _ c.in_err-s.ensures)

pub returns : goal.returns
returns c = length_given _ _ _ _ _ c.in_ok-s.ensures
