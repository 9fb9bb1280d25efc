use native.Mathlib.Omega.{arith}
use Rattle.deliver.proofs.Merging.{held_some, merge_start, last_room, held_turn, came_turn, merge_done}
use Rattle.deliver.proofs.merge.merge.Goals as goal

pub loop-j-init : goal.loop-j-init
loop-j-init c = merge_start _ _ _ _ _ _ c.requires

pub held_last-requires : goal.held_last-requires
held_last-requires c = last_room _ _ _ _ _ _ c.requires c.loop-j.invariant c.loop-j-test.true

pub overflow_sub-i : goal.overflow_sub-i
overflow_sub-i c = omega (arith, held_some _ _ _ _ c.held_last.ensures c.if-held_last.true)

pub move40-requires : goal.move40-requires
move40-requires c = let s = held_some _ _ _ _ c.held_last.ensures c.if-held_last.true in (omega arith, omega arith)

pub loop-j-smaller-then-held_last : goal.loop-j-smaller-then-held_last
loop-j-smaller-then-held_last c = omega (arith, held_some _ _ _ _ c.held_last.ensures c.if-held_last.true)

pub loop-j-preserved-then-held_last : goal.loop-j-preserved-then-held_last
loop-j-preserved-then-held_last c =
    let pre = c.requires in
    let loop = c.loop-j in
    let loop-test = c.loop-j-test in
    let held-last = c.held_last in
    let if1 = c.if-held_last in
    let move40 = c.move40 in
    held_turn _ _ _ _ _ _ pre loop.invariant loop-test.true held-last.ensures if1.true move40.ensures

pub loop-j-preserved : goal.loop-j-preserved
loop-j-preserved c =
    let pre = c.requires in
    let loop = c.loop-j in
    let loop-test = c.loop-j-test in
    let held-last = c.held_last in
    let if1 = c.if-held_last in
    let copy40 = c.copy40 in
    came_turn _ _ _ _ _ _ pre loop.invariant loop-test.true held-last.ensures if1.false copy40.ensures

pub shape_of-area : goal.shape_of-area
shape_of-area c = c.loop-j.invariant.same_length

pub returns : goal.returns
returns c = merge_done _ _ _ _ _ _ c.requires c.loop-j.invariant c.loop-j-test.false
