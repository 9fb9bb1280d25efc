use Rattle.part_check.proofs.Checking.{head_short, head_read}
use Rattle.offsets.proofs.Tables.{first_le_end}
use native.Mathlib.Omega.{arith}
use Rattle.part_check.proofs.sound.header_sound.Goals as goal

pub returns-then-part-lt32 : goal.returns-then-part-lt32
returns-then-part-lt32 c = head_short _ _ _ c.if-part-lt32.true

pub overflow_sub-result : goal.overflow_sub-result
overflow_sub-result c =
    let pre = c.requires in
    let first_tree_call = c.first_tree-first in
    let end-tree = c.end_tree-end in
    omega (arith, first_le_end _ (λ i. (c.type_inv.table i).fits) pre.counted pre.checked _ pre.below, first_tree_call.ensures, end-tree.ensures)

pub returns : goal.returns
returns c =
    let ranks = c.ranks-ranks in
    let first_tree_call = c.first_tree-first in
    let end-tree = c.end_tree-end in
    let tree_count_call = c.tree_count-count in
    let dimension = c.dimension in
    let dimension_ok_call = c.dimension_ok in
    let trees = c.trees in
    let entry = c.entry in
    let read_u32 = c.read_u32 in
    let read-u322 = c.read_u32-2 in
    let first-tree2 = c.first_tree in
    let read-u323 = c.read_u32-3 in
    let ghost-count = c.ghost_count in
    head_read _ _ _ ranks.ensures.0 first_tree_call.ensures end-tree.ensures tree_count_call.ensures dimension.ensures dimension_ok_call.ensures trees.ensures entry.ensures
    read_u32.ensures read-u322.ensures first-tree2.ensures read-u323.ensures ghost-count.ensures c.ghost_at.ensures
