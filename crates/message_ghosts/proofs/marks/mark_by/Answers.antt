use native.Mathlib.Omega.{arith}
use Rattle.message_ghosts.specs.Means.{Known}
use Rattle.message_ghosts.proofs.Marking.{header_fits, sent_from, sent_small, near_room, near_known, sent_marked}
use Rattle.message_ghosts.proofs.marks.mark_by.Goals as goal

pub first_tree-own-requires : goal.first_tree-own-requires
first_tree-own-requires c = header_fits _ _ _ _ _ c.requires.0.0.sending

pub tree_count-count-requires : goal.tree_count-count-requires
tree_count-count-requires c = header_fits _ _ _ _ _ c.requires.0.0.sending

pub to_local-start-requires : goal.to_local-start-requires
to_local-start-requires c =
    let pre = c.requires in
    let first_tree_call = c.first_tree-own in
    sent_from _ _ _ _ _ pre.0.0.sending _ _ _ _ 0 pre.0.1 first_tree_call.ensures c.tree_count-count.ensures pre.0.0.begins pre.0.0.many pre.1

pub overflow_add-start : goal.overflow_add-start
overflow_add-start c =
    let pre = c.requires in
    let first_tree_call = c.first_tree-own in
    let tree_count_call = c.tree_count-count in
    omega (arith, sent_small _ _ _ _ _ pre.0.0.sending _ _ _ _ _ pre.0.1 first_tree_call.ensures tree_count_call.ensures pre.0.0.begins pre.0.0.many pre.1 c.to_local-start.ensures)

pub add_near-requires : goal.add_near-requires
add_near-requires c =
    let pre = c.requires in
    let first_tree_call = c.first_tree-own in
    let tree_count_call = c.tree_count-count in
    let to_local = c.to_local-start in
    near_room _ _ _ _ _ pre.0.0.sending _ _ _ _ _ pre.0.1 first_tree_call.ensures tree_count_call.ensures pre.0.0.begins pre.0.0.many pre.1 to_local.ensures _ pre.2

pub ranges_of-of-requires : goal.ranges_of-of-requires
ranges_of-of-requires c =
    let pre = c.requires in
    record { tables = pre.0.0.sending.pair.tables; rank_below = pre.0.0.sending.pair.receiver_below }

pub locals_of-here-requires : goal.locals_of-here-requires
locals_of-here-requires c =
    let pre = c.requires in
    let is : Known _ _ _ _ _ _ = record { sending = pre.0.0.sending; bytes = pre.0.1; counted = c.tree_count-count.ensures } in
    (is, c.first_tree-own.ensures, c.ranges_of-of.ensures)

pub mark_near-requires : goal.mark_near-requires
mark_near-requires c =
    let pre = c.requires in
    let first_tree_call = c.first_tree-own in
    let tree_count_call = c.tree_count-count in
    let to_local = c.to_local-start in
    let add-near = c.add_near in
    let ranges-of = c.ranges_of-of in
    let known = near_known _ _ _ _ _ pre.0.0.sending _ _ _ _ _ pre.0.1 first_tree_call.ensures tree_count_call.ensures pre.0.0.begins pre.0.0.many pre.1 to_local.ensures _ pre.2 _ add-near.ensures pre.2.few in
    let is : Known _ _ _ _ _ _ = record { sending = pre.0.0.sending; bytes = pre.0.1; counted = tree_count_call.ensures } in
    (is, known, pre.3, ranges-of.ensures, c.locals_of-here.ensures)

pub returns : goal.returns
returns c =
    let pre = c.requires in
    let first_tree_call = c.first_tree-own in
    let tree_count_call = c.tree_count-count in
    let to_local = c.to_local-start in
    let add-near = c.add_near in
    let mark-near = c.mark_near in
    sent_marked _ _ _ _ _ pre.0.0.sending _ _ _ _ _ pre.0.1 first_tree_call.ensures tree_count_call.ensures pre.0.0.begins pre.0.0.many pre.1 to_local.ensures _ pre.2 _ add-near.ensures mark-near.ensures
