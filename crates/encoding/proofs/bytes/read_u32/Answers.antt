use Rattle.encoding.proofs.Numbers.{four_bytes}
use native.Mathlib.Omega.{arith}
use Rattle.encoding.proofs.bytes.read_u32.Goals as goal

pub returns : goal.returns
returns c = omega (arith, c.from_le_bytes.ensures, four_bytes c.args.bs.now c.args.at c.requires)
