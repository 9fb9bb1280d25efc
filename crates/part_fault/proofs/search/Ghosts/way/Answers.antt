use Rattle.part.proofs.Ranges.{range_first}
use Rattle.part_check.proofs.Checking.{ghost_found}
use Rattle.part_fault.proofs.Passing.{way_tree, way_ghost, way_none}
use Rattle.part_fault.proofs.search.Ghosts.way.Goals as goal

pub to_local-tree-requires : goal.to_local-tree-requires
to_local-tree-requires c = range_first _ _ _ c.in_range.ensures c.if-in_range.true

pub returns-then-in_range : goal.returns-then-in_range
returns-then-in_range c =
    let pre = c.requires in
    let in_range_call = c.in_range in
    let if1 = c.if-in_range in
    let to_local = c.to_local-tree in
    let ghost-index = c.ghost_index-own in
    way_tree _ _ pre.0.known _ _ in_range_call.ensures _ if1.true to_local.ensures ghost-index.ensures c.tree_at.ensures

pub find-position-requires : goal.find-position-requires
find-position-requires c = c.requires.0.indexed.counted

pub returns-then-position-e : goal.returns-then-position-e
returns-then-position-e c =
    let pre = c.requires in
    let in_range_call = c.in_range in
    let if1 = c.if-in_range in
    let find = c.find-position in
    let if2 = c.if-position-e in
    let ghost-at2 = c.ghost_at-then-position-e in
    let ghost_at = c.ghost_at in
    way_ghost _ _ pre.0.known _ _ in_range_call.ensures if1.false (ghost_found _ _ _ pre.0.indexed _ find.ensures.0) if2.true ghost-at2.ensures c.number_of.ensures ghost_at.ensures

pub returns : goal.returns
returns c =
    let pre = c.requires in
    let in_range_call = c.in_range in
    let if1 = c.if-in_range in
    let find = c.find-position in
    way_none _ _ pre.0.known _ _ in_range_call.ensures if1.false (ghost_found _ _ _ pre.0.indexed _ find.ensures.0) c.if-position-e.false
