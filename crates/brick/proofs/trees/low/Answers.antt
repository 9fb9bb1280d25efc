use Rattle.brick.proofs.Rows.{step_below, span_fits}
use Rattle.brick.specs.Means.{low_row}
use borrow.Author.Tests.{eq-eqb, ne_eqb}
use native.Mathlib.Omega.{arith}
use Rattle.brick.proofs.trees.low.Goals as goal

pub overflow_sub-result : goal.overflow_sub-result
overflow_sub-result c = step_below _ _ _ _ c.requires.0 c.if-x-ne0.true

pub returns-then-x-ne0 : goal.returns-then-x-ne0
unfolding low_row
returns-then-x-ne0 c = rw (ne_eqb _ 0 c.if-x-ne0.true)

pub overflow_mul-result : goal.overflow_mul-result
overflow_mul-result c = omega (arith, span_fits _ _ _ _ c.requires.0)

pub overflow_add-result-then-periodic : goal.overflow_add-result-then-periodic
overflow_add-result-then-periodic c = omega (arith, span_fits _ _ _ _ c.requires.0)

pub returns-then-periodic : goal.returns-then-periodic
unfolding low_row
returns-then-periodic c = rw (eq-eqb _ 0 c.if-x-ne0.false, c.if-periodic.true)

pub returns : goal.returns
unfolding low_row
returns c = rw (eq-eqb _ 0 c.if-x-ne0.false, c.if-periodic.false)
