use Rattle.build_all.proofs.Rows.{to_next, write_start, write_room, rest_room, write_next, write_done, put_written}
use native.Mathlib.Omega.{arith}
use mathlib.Core.Path.{refl, ◌∙◌}
use Rattle.build_all.proofs.each.write_messages.Goals as goal

pub loop-q-init : goal.loop-q-init
loop-q-init c =
    let window-of = c.window_of-window in
    (omega arith, (refl, write_start _ _ _ _ _ _ window-of.ensures.0))

pub slice_bounds-write_to-count : goal.slice_bounds-write_to-count
slice_bounds-write_to-count c =
    let args = c.args in
    let loop = c.loop-q in
    let loop-test = c.loop-q-test in
    let window-of = c.window_of-window in
    let pre = c.requires in
    omega (arith, write_room args.from.part.now args.from.old.now args.from.new.now args.from.rank args.epoch args.out.now loop.invariant.1.1 loop-test.true window-of.ensures.0 pre.1)

pub slice_bounds-write_to-start : goal.slice_bounds-write_to-start
slice_bounds-write_to-start c =
    let args = c.args in
    let loop = c.loop-q in
    let loop-test = c.loop-q-test in
    let window-of = c.window_of-window in
    let pre = c.requires in
    omega (arith, write_room args.from.part.now args.from.old.now args.from.new.now args.from.rank args.epoch args.out.now loop.invariant.1.1 loop-test.true window-of.ensures.0 pre.1)

pub write_to-at-requires : goal.write_to-at-requires
write_to-at-requires c =
    let pre = c.requires in
    let loop = c.loop-q in
    let window-of = c.window_of-window in
    let loop-test = c.loop-q-test in
    let lower-rank = c.lower_rank-lower in
    let upper-rank = c.upper_rank-upper in
    (to_next pre.0 loop.invariant.1.0 window-of.ensures.0 loop-test.true lower-rank.ensures.0 upper-rank.ensures.0, rest_room _ _ _ _ _ _ loop.invariant.1.1 loop-test.true window-of.ensures.0 pre.1)

pub overflow_add-at : goal.overflow_add-at
overflow_add-at c =
    let args = c.args in
    let pre = c.requires in
    let window-of = c.window_of-window in
    let loop = c.loop-q in
    let loop-test = c.loop-q-test in
    let write-to = c.write_to-at in
    omega (arith, write_room args.from.part.now args.from.old.now args.from.new.now args.from.rank args.epoch args.out.now loop.invariant.1.1 loop-test.true window-of.ensures.0 pre.1, write-to.ensures.0, loop.invariant.1.1.same_length, loop.invariant.0)

pub loop-q-preserved : goal.loop-q-preserved
loop-q-preserved c =
    let loop-test = c.loop-q-test in
    let marks = c.marks-1 in
    let loop = c.loop-q in
    let window-of = c.window_of-window in
    let pre = c.requires in
    let write-to = c.write_to-at in
    (loop.invariant.0, (marks.given ∙ loop.invariant.1.0, write_next _ _ _ _ _ _ loop.invariant.1.1 loop-test.true window-of.ensures.0 pre.1 write-to.ensures.0 (put_written _ _ _ _ _ _ loop.invariant.1.1 loop-test.true window-of.ensures.0 pre.1 write-to.ensures.1)))

pub shape_of-marks : goal.shape_of-marks
shape_of-marks c = c.loop-q.invariant.1.0

pub shape_of-out : goal.shape_of-out
shape_of-out c = c.loop-q.invariant.1.1.same_length

pub returns : goal.returns
returns c =
    let loop = c.loop-q in
    let window-of = c.window_of-window in
    write_done _ _ _ _ _ _ loop.invariant.1.1 (loop.auto.q-end window-of.ensures.0.ordered) c.loop-q-test.false window-of.ensures.0
