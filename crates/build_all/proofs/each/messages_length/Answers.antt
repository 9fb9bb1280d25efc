use Rattle.build_all.proofs.Rows.{to_next, add_start, add_next, add_done}
use native.Mathlib.Omega.{arith}
use Rattle.build_all.proofs.each.messages_length.Goals as goal

pub loop-q-init : goal.loop-q-init
loop-q-init c =
    let window-of = c.window_of-window in
    add_start _ _ _ _ _ window-of.ensures.0

pub length_to-total-requires : goal.length_to-total-requires
length_to-total-requires c =
    let pre = c.requires in
    let loop = c.loop-q in
    let window-of = c.window_of-window in
    let loop-test = c.loop-q-test in
    let lower-rank = c.lower_rank-lower in
    let upper-rank = c.upper_rank-upper in
    to_next pre loop.invariant.same_length window-of.ensures.0 loop-test.true lower-rank.ensures.0 upper-rank.ensures.0

pub overflow_add-total : goal.overflow_add-total
overflow_add-total c =
    let loop = c.loop-q in
    let length_to = c.length_to-total in
    let window-of = c.window_of-window in
    let loop-test = c.loop-q-test in
    omega (arith, loop.invariant.most, length_to.ensures.1, window-of.ensures.1, loop-test.true)

pub loop-q-preserved : goal.loop-q-preserved
loop-q-preserved c =
    let loop-test = c.loop-q-test in
    let loop = c.loop-q in
    let marks = c.marks-1 in
    let length_to = c.length_to-total in
    add_next _ _ _ _ _ loop.invariant marks.given length_to.ensures.0 length_to.ensures.1

pub shape_of-marks : goal.shape_of-marks
shape_of-marks c = c.loop-q.invariant.same_length

pub returns : goal.returns
returns c =
    let loop = c.loop-q in
    let window-of = c.window_of-window in
    (add_done _ _ _ _ _ loop.invariant (loop.auto.q-end window-of.ensures.0.ordered) c.loop-q-test.false window-of.ensures.0, omega (arith, loop.invariant.most, (loop.auto.q-end window-of.ensures.0.ordered), window-of.ensures.1))
