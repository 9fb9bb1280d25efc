use Rattle.plan_write.proofs.Writing.{row_length}
use native.Mathlib.Omega.{arith}
use Rattle.plan_write.proofs.moves.row_length.Goals as goal

pub returns : goal.returns
returns c =
    let args = c.args in
    omega (arith, row_length args.p args.q args.first args.last)
