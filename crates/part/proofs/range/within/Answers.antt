use native.Mathlib.Omega.{arith}
use Rattle.part.proofs.Ranges.{range_wraps}
use Rattle.part.proofs.range.within.Goals as goal

pub returns : goal.returns
returns c = range_wraps _ _ _ c.requires (omega arith) (omega arith)
