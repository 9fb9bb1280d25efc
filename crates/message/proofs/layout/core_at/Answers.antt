use Rattle.message.proofs.Checking.{core_fits}
use mathlib.Core.Path.{refl}
use native.Mathlib.Omega.{arith}
use Rattle.message.proofs.layout.core_at.Goals as goal

pub overflow_mul-result : goal.overflow_mul-result
overflow_mul-result c = omega (arith, core_fits _ _ _ _ c.requires.0 _ c.requires.1)

pub overflow_add-result : goal.overflow_add-result
overflow_add-result c = omega (arith, core_fits _ _ _ _ c.requires.0 _ c.requires.1)

pub returns : goal.returns
returns c = (refl, core_fits _ _ _ _ c.requires.0 _ c.requires.1)
