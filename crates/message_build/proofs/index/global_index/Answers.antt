use Rattle.message_build.proofs.Writing.{index_unused, index_tree, index_ghost, index_none}
use Rattle.message_build.proofs.index.global_index.Goals as goal

pub returns-then-j : goal.returns-then-j
returns-then-j c = index_unused _ _ _ c.requires _ c.if-j.true

pub returns-then-j-count : goal.returns-then-j-count
returns-then-j-count c =
    let pre = c.requires in
    let if1 = c.if-j in
    let if2 = c.if-j-count in
    let tree-at = c.tree_at in
    index_tree _ _ _ pre _ if1.false if2.true tree-at.ensures c.number_of.ensures

pub returns-then-j-count-2 : goal.returns-then-j-count-2
returns-then-j-count-2 c =
    let pre = c.requires in
    let if1 = c.if-j in
    let if2 = c.if-j-count in
    let if3 = c.if-j-count-2 in
    let ghost_at = c.ghost_at in
    index_ghost _ _ _ pre _ if1.false if2.false if3.true ghost_at.ensures c.number_of-then-j-count-2.ensures

pub returns : goal.returns
returns c = index_none _ _ _ c.requires _ c.if-j.false c.if-j-count.false c.if-j-count-2.false
