use Rattle.brick.proofs.Rows.{stride_fits, span_fits, span_below}
use Rattle.brick.specs.Means.{high_row}
use borrow.Author.Tests.{eq-eqb, ne_eqb}
use native.Mathlib.Omega.{arith}
use Rattle.brick.proofs.trees.high.Goals as goal

pub overflow_add-result : goal.overflow_add-result
overflow_add-result c = omega (arith, stride_fits _ _ _ _ c.requires.0)

pub returns-then-x-extent : goal.returns-then-x-extent
unfolding high_row
returns-then-x-extent c = rw (ne_eqb _ _ c.if-x-extent.true)

pub overflow_mul-result : goal.overflow_mul-result
overflow_mul-result c = omega (arith, span_fits _ _ _ _ c.requires.0)

pub overflow_sub-result-then-periodic-2 : goal.overflow_sub-result-then-periodic-2
overflow_sub-result-then-periodic-2 c = span_below _ _ _ _ c.requires.0 c.if-x-extent.false

pub returns-then-periodic : goal.returns-then-periodic
unfolding high_row
returns-then-periodic c = rw (eq-eqb _ _ c.if-x-extent.false, c.if-periodic.true)

pub returns : goal.returns
unfolding high_row
returns c = rw (eq-eqb _ _ c.if-x-extent.false, c.if-periodic.false)
