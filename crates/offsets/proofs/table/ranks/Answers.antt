use mathlib.Core.Path.{refl}
use Rattle.offsets.proofs.OnePass.{ranks_known}
use Rattle.offsets.specs.Table.{ranks}
use native.Mathlib.Omega.{arith}
use Rattle.offsets.proofs.table.ranks.Goals as goal

pub overflow_sub-result : goal.overflow_sub-result
overflow_sub-result c = let k = ranks_known _ c.requires in omega (arith, k.low, k.size)

pub returns : goal.returns
unfolding ranks
returns c = let k = ranks_known _ c.requires in (refl, (k.low, k.high, k.size))
