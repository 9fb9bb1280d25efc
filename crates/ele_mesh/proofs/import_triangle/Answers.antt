use Prim.Native.Nat.{ℕ}
use lib.ListN.{length-replicate}
use Rattle.std.proofs.lemmas.Result.{err_from_is_err_and}
use native.Mathlib.Omega.{arith}
use Rattle.ele_mesh.proofs.Surveys.{import_fails, import_short, ready_drawn, import_written}
use Rattle.ele_mesh.proofs.import_triangle.Goals as goal

pub survey-requires : goal.survey-requires
survey-requires c = (omega (arith, length-replicate {A = ℕ} 196608 0), record { hashed = omega (arith, length-replicate {A = ℕ} 65521 0); faces = omega (arith, length-replicate {A = ℕ} 196608 0) })

pub returns-in_err-s : goal.returns-in_err-s
returns-in_err-s c =
    let p = err_from_is_err_and c.from_residual.result c.from_residual.ensures.1 in
    rw (p.1, p.2) (import_fails _ _ c.in_err-s.ensures _)

pub returns-then-out-n : goal.returns-then-out-n
returns-then-out-n c = import_short _ _ _ _ _ c.in_ok-s.ensures _ c.if-out-n.true

pub write-requires : goal.write-requires
write-requires c = (ready_drawn _ _ _ _ _ c.in_ok-s.ensures, omega (arith, c.if-out-n.false))

pub returns : goal.returns
returns c = import_written _ _ _ _ _ c.in_ok-s.ensures _ _ c.if-out-n.false c.write.ensures
