use Rattle.brick.proofs.Rows.{third_most, next_third}
use native.Mathlib.Omega.{arith}
use Rattle.brick.proofs.trees.next.Goals as goal

pub overflow_add-result-2 : goal.overflow_add-result-2
overflow_add-result-2 c = omega (arith, third_most _ _ _ _ _ _ c.requires.0)

pub returns : goal.returns
returns c = next_third _ _ _ _ _ _ c.requires.0 (omega arith) (omega arith)
