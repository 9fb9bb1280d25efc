use Rattle.brick.proofs.Sound.{within}
use native.Mathlib.Omega.{arith}
use Rattle.brick.proofs.extents.tree_count.Goals as goal

pub overflow_mul-result : goal.overflow_mul-result
overflow_mul-result c = omega (arith, (within _ _ _ c.requires).layer)

pub overflow_mul-result-2 : goal.overflow_mul-result-2
overflow_mul-result-2 c = omega (arith, (within _ _ _ c.requires).few)
