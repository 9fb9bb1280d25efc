use native.Mathlib.Omega.{arith}
use Rattle.positions.proofs.Positions.{counted_start, counted_more, counted_end, word_total, word_none, total_end}
use Rattle.positions.proofs.index.count_behind.Goals as goal

pub loop-i-init : goal.loop-i-init
loop-i-init c = (omega arith, counted_start _ _ _)

pub overflow_add-total : goal.overflow_add-total
overflow_add-total c =
    let loop-test = c.loop-i-test in
    let loop = c.loop-i in
    let pre = c.requires in
    omega (arith, (word_total _ _ _ _ loop-test.true loop.invariant.0 c.ones-total.ensures.0).1, pre.few)

pub loop-i-preserved-then-w-ne0 : goal.loop-i-preserved-then-w-ne0
loop-i-preserved-then-w-ne0 c =
    let loop-test = c.loop-i-test in
    let loop = c.loop-i in
    let pre = c.requires in
    ((word_total _ _ _ _ loop-test.true loop.invariant.0 c.ones-total.ensures.0).0, counted_more _ _ _ pre.room loop-test.true loop.auto.i loop.invariant.0 loop.invariant.1)

pub loop-i-preserved : goal.loop-i-preserved
loop-i-preserved c =
    let loop-test = c.loop-i-test in
    let loop = c.loop-i in
    let pre = c.requires in
    (word_none _ _ _ loop-test.true loop.invariant.0 (omega arith), counted_more _ _ _ pre.room loop-test.true loop.auto.i loop.invariant.0 loop.invariant.1)

pub returns : goal.returns
returns c = (counted_end _ _ c.loop-i.invariant.1 (omega arith), total_end _ _ _ c.loop-i.invariant.0 (omega arith))
