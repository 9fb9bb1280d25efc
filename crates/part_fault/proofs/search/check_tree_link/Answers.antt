use Rattle.part_fault.proofs.Finding.{to_tree, to_ghost, to_nothing}
use Rattle.part_fault.proofs.search.check_tree_link.Goals as goal

pub returns-then-m-count : goal.returns-then-m-count
returns-then-m-count c =
    let pre = c.requires in
    let tree-at = c.tree_at-at in
    let neighbour_of_call = c.neighbour_of-m in
    let if1 = c.if-m-count in
    let tree-at2 = c.tree_at in
    to_tree _ _ pre.0 _ _ tree-at.ensures neighbour_of_call.ensures if1.true tree-at2.ensures c.check_link.ensures

pub returns-then-m-count-2 : goal.returns-then-m-count-2
returns-then-m-count-2 c =
    let pre = c.requires in
    let tree-at = c.tree_at-at in
    let neighbour_of_call = c.neighbour_of-m in
    let if1 = c.if-m-count in
    let if2 = c.if-m-count-2 in
    let number_of_call = c.number_of in
    let ghost_at = c.ghost_at in
    to_ghost _ _ pre.0 _ _ tree-at.ensures neighbour_of_call.ensures if1.false if2.true number_of_call.ensures ghost_at.ensures c.check_link-then-m-count-2.ensures

pub returns : goal.returns
returns c =
    let pre = c.requires in
    let tree-at = c.tree_at-at in
    let neighbour_of_call = c.neighbour_of-m in
    let if1 = c.if-m-count in
    to_nothing _ _ pre.0 _ _ tree-at.ensures neighbour_of_call.ensures if1.false c.if-m-count-2.false
