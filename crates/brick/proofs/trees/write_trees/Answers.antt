use lib.Dec.{lit≤}
use Rattle.brick.proofs.Turns.{turn_start, turn_few, turn_first, turn_second, turn_third, turn_rows, turn_room, turn_next, turn_same, turn_done}
use Rattle.brick.proofs.Sound.{within}
use native.Mathlib.Omega.{arith}
use Rattle.brick.proofs.trees.write_trees.Goals as goal

pub overflow_mul-layer : goal.overflow_mul-layer
overflow_mul-layer c = omega (arith, (within _ _ _ c.requires.extents).layer)

pub loop-k-init : goal.loop-k-init
loop-k-init c =
    let pre = c.requires in
    let tree_count_call = c.tree_count-trees in
    let header = c.header in
    turn_start _ _ _ _ pre tree_count_call.ensures header.ensures

pub low-requires : goal.low-requires
low-requires c = (turn_first c.loop-k.invariant c.loop-k-test.true, lit≤ tt)

pub high-requires : goal.high-requires
high-requires c = (turn_first c.loop-k.invariant c.loop-k-test.true, (lit≤ tt, lit≤ tt))

pub low-requires-in-loop-k : goal.low-requires-in-loop-k
low-requires-in-loop-k c = (turn_second c.loop-k.invariant c.loop-k-test.true, lit≤ tt)

pub high-requires-in-loop-k : goal.high-requires-in-loop-k
high-requires-in-loop-k c = (turn_second c.loop-k.invariant c.loop-k-test.true, (lit≤ tt, lit≤ tt))

pub low-requires-in-loop-k-2 : goal.low-requires-in-loop-k-2
low-requires-in-loop-k-2 c = (turn_third c.loop-k.invariant c.loop-k-test.true, lit≤ tt)

pub high-requires-in-loop-k-2 : goal.high-requires-in-loop-k-2
high-requires-in-loop-k-2 c =
    let loop = c.loop-k in
    let loop-test = c.loop-k-test in
    (turn_third loop.invariant loop-test.true, (lit≤ tt, lit≤ tt))

pub tree-requires : goal.tree-requires
tree-requires c =
    let loop = c.loop-k in
    let loop-test = c.loop-k-test in
    let low = c.low in
    let high = c.high in
    let low2 = c.low-in-loop-k in
    let high2 = c.high-in-loop-k in
    let low3 = c.low-in-loop-k-2 in
    let high3 = c.high-in-loop-k-2 in
    turn_room loop.invariant loop-test.true (turn_rows loop.invariant loop-test.true low.ensures high.ensures low2.ensures high2.ensures low3.ensures high3.ensures)

pub next-at-requires : goal.next-at-requires
next-at-requires c =
    let loop = c.loop-k in
    let loop-test = c.loop-k-test in
    (loop.invariant.stands, turn_few loop.invariant loop-test.true)

pub loop-k-preserved : goal.loop-k-preserved
loop-k-preserved c =
    let loop = c.loop-k in
    let loop-test = c.loop-k-test in
    let low = c.low in
    let high = c.high in
    let low2 = c.low-in-loop-k in
    let high2 = c.high-in-loop-k in
    let low3 = c.low-in-loop-k-2 in
    let high3 = c.high-in-loop-k-2 in
    let tree = c.tree in
    turn_next loop.invariant loop-test.true (turn_rows loop.invariant loop-test.true low.ensures high.ensures low2.ensures high2.ensures low3.ensures high3.ensures) tree.ensures c.next-at.ensures

pub shape_of-out : goal.shape_of-out
shape_of-out c =
    let loop = c.loop-k in
    let pre = c.requires in
    let header = c.header in
    turn_same loop.invariant _ (omega (arith, pre.room)) header.ensures

pub returns : goal.returns
returns c =
    let loop = c.loop-k in
    let pre = c.requires in
    let header = c.header in
    turn_done loop.invariant _ (omega (arith, pre.room)) header.ensures c.loop-k-test.false
