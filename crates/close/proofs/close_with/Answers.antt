use Rattle.positions.proofs.Positions.{blank}
use native.Mathlib.Omega.{arith}
use Rattle.close.proofs.close_with.Goals as goal

pub close_by-requires : goal.close_by-requires
close_by-requires g c = (c.requires.0, omega (arith, c.requires.1), blank _ (omega (arith, c.requires.2)))
