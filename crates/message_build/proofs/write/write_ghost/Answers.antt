use Rattle.message_build.proofs.Trees.{place_is}
use Rattle.message_build.proofs.Ghosts.{core_local, local_room, past_at, ghost_source, ghost_past, ghost_copied}
use Rattle.part.proofs.Ranges.{range_first}
use Rattle.encoding.proofs.Pieces.{splice_of}
use Rattle.part.proofs.Search.{ascending_at}
use borrow.Author.Rules.{rules}
use Rattle.message_build.proofs.write.write_ghost.Goals as goal

pub to_local-tree-requires : goal.to_local-tree-requires
to_local-tree-requires c = range_first _ _ _ c.in_range.ensures c.if-in_range.true

pub write_core-requires : goal.write_core-requires
write_core-requires c =
    let pre = c.requires in
    let in_range_call = c.in_range in
    let if1 = c.if-in_range in
    let to_local = c.to_local-tree in
    let tree-at = c.tree_at in
    local_room _ _ _ _ _ _ _ _ pre.0 in_range_call.ensures if1.true (place_is _ _ _ to_local.ensures tree-at.ensures)

pub returns-then-in_range : goal.returns-then-in_range
returns-then-in_range c =
    let write-core = c.write_core in
    let to_local = c.to_local-tree in
    let tree-at = c.tree_at in
    let pre = c.requires in
    let in_range_call = c.in_range in
    let if1 = c.if-in_range in
    (splice_of _ _ write-core.ensures (rw (place_is _ _ _ to_local.ensures tree-at.ensures) (core_local _ _ _ _ _ _ pre.0.known in_range_call.ensures if1.true)), pre.1)

pub find_from-position-requires : goal.find_from-position-requires
find_from-position-requires c =
    let pre = c.requires in
    (ascending_at _ _ _ pre.0.known.ascending c.ghost_at.ensures, past_at c.ghost_at.ensures pre.1)

pub copy40-requires : goal.copy40-requires
copy40-requires c =
    let pre = c.requires in
    let in_range_call = c.in_range in
    let if1 = c.if-in_range in
    let ghost_at = c.ghost_at in
    let find-from = c.find_from-position in
    let ghost-at2 = c.ghost_at-2 in
    (ghost_source _ _ _ _ _ _ _ _ pre.0 in_range_call.ensures if1.false ghost_at.ensures find-from.ensures.0 ghost-at2.ensures, search rules)

pub returns : goal.returns
returns c =
    let pre = c.requires in
    let in_range_call = c.in_range in
    let if1 = c.if-in_range in
    let ghost_at = c.ghost_at in
    let find-from = c.find_from-position in
    let ghost-at2 = c.ghost_at-2 in
    let copy40 = c.copy40 in
    (ghost_copied _ _ _ _ _ _ _ _ pre.0 in_range_call.ensures if1.false ghost_at.ensures find-from.ensures.0 ghost-at2.ensures copy40.ensures, ghost_past _ _ _ _ _ _ _ _ pre.0 in_range_call.ensures if1.false ghost_at.ensures find-from.ensures.0)
