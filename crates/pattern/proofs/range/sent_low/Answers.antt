use Rattle.pattern.proofs.Laws.{sender_row, receiver_new_row, pair_small, lower_le}
use Rattle.pattern.specs.Means.{sent_low}
use borrow.Author.Tests.{le-leb, lt-leb}
use native.Mathlib.Omega.{arith}
use Rattle.pattern.proofs.range.sent_low.Goals as goal

pub first_tree-requires : goal.first_tree-requires
first_tree-requires c = omega (arith, sender_row c.requires.0)

pub first_tree-requires-2 : goal.first_tree-requires-2
first_tree-requires-2 c = omega (arith, receiver_new_row c.requires.0)

pub overflow_add-q : goal.overflow_add-q
overflow_add-q c = omega (arith, pair_small c.requires.0)

pub overflow_add-lower : goal.overflow_add-lower
overflow_add-lower c =
    let pre = c.requires in
    let args = c.args in
    omega (arith, pair_small pre.0, pre.1, lower_le args.old.now args.p)

pub entry-requires : goal.entry-requires
entry-requires c = omega (arith, sender_row c.requires.0)

pub returns-then-q-lower : goal.returns-then-q-lower
unfolding sent_low
returns-then-q-lower c =
    let magnitude = c.magnitude in
    let entry = c.entry in
    let larger = c.max-first in
    let first_tree_call = c.first_tree in
    let first-tree2 = c.first_tree-2 in
    let pre = c.requires in
    let if1 = c.if-q-lower in
    simp (c.max.ensures, magnitude.ensures, entry.ensures, larger.ensures, first_tree_call.ensures, first-tree2.ensures, ← pre.1, le-leb _ _ if1.true)

pub returns : goal.returns
unfolding sent_low
returns c =
    let larger = c.max-first in
    let first_tree_call = c.first_tree in
    let first-tree2 = c.first_tree-2 in
    let pre = c.requires in
    simp (larger.ensures, first_tree_call.ensures, first-tree2.ensures, ← pre.1, lt-leb _ _ c.if-q-lower.false)
