use Rattle.area.proofs.Ranges.{bound_read}
use native.Mathlib.Omega.{arith}
use Rattle.area.proofs.layout.ghost_bound.Goals as goal

pub overflow_mul-result : goal.overflow_mul-result
overflow_mul-result c = omega (arith, (bound_read c.args.dimension c.args.count c.faces_in.ensures.0 c.faces_in.ensures.1.1).1)

pub returns : goal.returns
returns c = bound_read _ _ c.faces_in.ensures.0 c.faces_in.ensures.1.1
