use Rattle.pattern.proofs.Laws.{sender_row, receiver_new_row, pair_small, upper_row}
use Rattle.pattern.specs.Means.{sent_high}
use Rattle.offsets.proofs.OnePass.{ranks_known}
use borrow.Author.Tests.{lt-ltb, le-ltb}
use native.Mathlib.Omega.{arith}
use Rattle.pattern.proofs.range.sent_high.Goals as goal

pub end_tree-requires : goal.end_tree-requires
end_tree-requires c = omega (arith, sender_row c.requires.0)

pub end_tree-requires-2 : goal.end_tree-requires-2
end_tree-requires-2 c = omega (arith, receiver_new_row c.requires.0)

pub overflow_add-upper : goal.overflow_add-upper
overflow_add-upper c =
    let pre = c.requires in
    omega (arith, pair_small pre.0, upper_row pre.0 pre.1, ranks_known _ pre.0.tables.old_ranks)

pub overflow_add-q : goal.overflow_add-q
overflow_add-q c = omega (arith, pair_small c.requires.0)

pub first_tree-requires : goal.first_tree-requires
first_tree-requires c = upper_row c.requires.0 c.requires.1

pub returns-then-upper-p : goal.returns-then-upper-p
unfolding sent_high
returns-then-upper-p c =
    let first_tree_call = c.first_tree in
    let smaller = c.min-end in
    let end-tree = c.end_tree in
    let end-tree2 = c.end_tree-2 in
    let pre = c.requires in
    let if1 = c.if-upper-p in
    simp (c.min.ensures, first_tree_call.ensures, smaller.ensures, end-tree.ensures, end-tree2.ensures, ← pre.1, lt-ltb _ _ if1.true)

pub returns : goal.returns
unfolding sent_high
returns c =
    let smaller = c.min-end in
    let end-tree = c.end_tree in
    let end-tree2 = c.end_tree-2 in
    let pre = c.requires in
    simp (smaller.ensures, end-tree.ensures, end-tree2.ensures, ← pre.1, le-ltb _ _ c.if-upper-p.false)
