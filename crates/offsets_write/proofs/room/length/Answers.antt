use Rattle.offsets.proofs.Tables.{ranks_within}
use native.Mathlib.Omega.{arith}
use Rattle.offsets_write.proofs.room.length.Goals as goal

pub overflow_add-result : goal.overflow_add-result
overflow_add-result c = omega (arith, ranks_within _ c.requires)

pub overflow_mul-result : goal.overflow_mul-result
overflow_mul-result c = omega (arith, ranks_within _ c.requires)
