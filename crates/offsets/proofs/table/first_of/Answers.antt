use Rattle.offsets.specs.Table.{first_of}
use native.Mathlib.Omega.{arith}
use mathlib.Core.Path.{◌∙◌, sym}
use Rattle.offsets.proofs.table.first_of.Goals as goal

pub returns-then-negative : goal.returns-then-negative
unfolding first_of
returns-then-negative c = rw (sym c.negative.ensures ∙ c.if-negative.true) (omega arith)

pub returns : goal.returns
unfolding first_of
returns c = rw (sym c.negative.ensures ∙ c.if-negative.false)
