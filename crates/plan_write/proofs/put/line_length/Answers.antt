use Rattle.plan_write.proofs.Writing.{line_length}
use native.Mathlib.Omega.{arith}
use Rattle.plan_write.proofs.put.line_length.Goals as goal

pub returns : goal.returns
returns c = let e = line_length c.args.word.now c.args.n in (omega arith, omega arith)
