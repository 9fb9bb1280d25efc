use Rattle.part_cut.proofs.Parts.{records_room, members_room, part_written}
use Rattle.part.specs.Layout.{header_bytes}
use native.Mathlib.Omega.{arith}
use Rattle.part_cut.proofs.write.write.Goals as goal

pub write_trees-requires : goal.write_trees-requires
write_trees-requires c =
    let pre = c.requires in
    let tree-at = c.tree_at-from in
    let faces_in_call = c.faces_in-faces in
    records_room pre tree-at.ensures faces_in_call.ensures.1.0 (omega arith)

pub write_ghosts-requires : goal.write_ghosts-requires
write_ghosts-requires c =
    let pre = c.requires in
    members_room pre c.ghost_at.ensures (omega arith)

pub returns : goal.returns
unfolding header_bytes
returns c =
    let pre = c.requires in
    let dimension = c.dimension-dimension in
    let trees = c.trees-trees in
    let faces_in_call = c.faces_in-faces in
    let tree-at = c.tree_at-from in
    let ghost_at = c.ghost_at in
    let write-eight = c.write_eight in
    let write-trees = c.write_trees in
    let write-ghosts = c.write_ghosts in
    part_written pre _ _ dimension.ensures trees.ensures faces_in_call.ensures.0 tree-at.ensures ghost_at.ensures write-eight.ensures write-trees.ensures write-ghosts.ensures
