use Rattle.offsets.proofs.OnePass.{negative_high}
use Rattle.offsets.specs.Table.{magnitude}
use native.Mathlib.Omega.{arith}
use mathlib.Core.Path.{◌∙◌, sym}
use Rattle.offsets.proofs.table.magnitude.Goals as goal

pub overflow_add-result : goal.overflow_add-result
overflow_add-result c = let h = negative_high _ (sym c.negative.ensures ∙ c.if-negative.true) in omega arith

pub returns-then-negative : goal.returns-then-negative
unfolding magnitude
returns-then-negative c = rw (sym c.negative.ensures ∙ c.if-negative.true) (omega arith)

pub returns : goal.returns
unfolding magnitude
returns c = rw (sym c.negative.ensures ∙ c.if-negative.false)
