use Rattle.std.proofs.Common.{sym, arith}
use Rattle.columns_read.proofs.Spaced.{spaced_at, spaced_fits}
use Rattle.columns_read.proofs.read.bare.Goals as goal

pub overflow_mul-result : goal.overflow_mul-result
overflow_mul-result c = omega (arith, spaced_fits _ _ _ _ c.requires.0 c.requires.1)

pub overflow_add-result : goal.overflow_add-result
overflow_add-result c = omega (arith, spaced_fits _ _ _ _ c.requires.0 c.requires.1)

pub bounds-bs-at : goal.bounds-bs-at
bounds-bs-at c = spaced_fits _ _ _ _ c.requires.0 c.requires.1

pub returns : goal.returns
returns c = sym (spaced_at _ _ _ _ _ c.requires.1)
