use Rattle.encoding.proofs.Numbers.{at_add}
use native.Mathlib.Omega.{arith}
use Rattle.encoding.proofs.bytes.read_u64.Goals as goal

pub returns : goal.returns
returns c = omega (arith, at_add 4 4 c.args.bs.now c.args.at (omega arith))
