use Rattle.deliver_all.proofs.Parting.{next_most, next_some, count_next, count_end}
use native.Mathlib.Omega.{arith}
use Rattle.deliver_all.proofs.messages.message_count.Goals as goal

pub loop-at-init : goal.loop-at-init
loop-at-init c = (omega arith, (omega arith, omega arith))

pub overflow_add-at : goal.overflow_add-at
overflow_add-at c =
    let args = c.args in
    let loop-test = c.loop-at-test in
    omega (arith, next_most args.messages.now loop-test.true c.front_length-at.ensures.0)

pub overflow_add-count : goal.overflow_add-count
overflow_add-count c = omega arith

pub loop-at-smaller : goal.loop-at-smaller
loop-at-smaller c =
    let args = c.args in
    let loop-test = c.loop-at-test in
    omega (arith, next_most args.messages.now loop-test.true c.front_length-at.ensures.0, next_some args.messages.now loop-test.true c.front_length-at.ensures.0)

pub loop-at-preserved : goal.loop-at-preserved
loop-at-preserved c =
    let args = c.args in
    let loop-test = c.loop-at-test in
    let loop = c.loop-at in
    (next_most args.messages.now loop-test.true c.front_length-at.ensures.0, (omega (arith, next_some args.messages.now loop-test.true c.front_length-at.ensures.0), count_next args.messages.now loop-test.true c.front_length-at.ensures.0 loop.count loop.invariant.1.1))

pub returns : goal.returns
returns c = count_end c.args.messages.now c.loop-at.at c.loop-at.count (omega arith) c.loop-at.invariant.1.1
