use Rattle.message_build.proofs.Whole.{trees_room, ghosts_room, records_written}
use mathlib.Core.Path.{refl}
use Rattle.message_build.proofs.write.write_records.Goals as goal

pub write_trees-requires : goal.write_trees-requires
write_trees-requires c =
    let pre = c.requires in
    let tree_count_call = c.tree_count-count in
    let ghost-count = c.ghost_count-ghosts in
    let first_tree_call = c.first_tree-first in
    let dimension = c.dimension in
    let faces_in_call = c.faces_in-faces in
    trees_room _ _ _ _ _ pre tree_count_call.ensures ghost-count.ensures first_tree_call.ensures dimension.ensures faces_in_call.ensures.0

pub write_ghosts-requires : goal.write_ghosts-requires
write_ghosts-requires c =
    let pre = c.requires in
    let tree_count_call = c.tree_count-count in
    let ghost-count = c.ghost_count-ghosts in
    let first_tree_call = c.first_tree-first in
    let dimension = c.dimension in
    let faces_in_call = c.faces_in-faces in
    let write-trees = c.write_trees in
    ghosts_room _ _ _ _ _ pre tree_count_call.ensures ghost-count.ensures first_tree_call.ensures dimension.ensures faces_in_call.ensures.0 refl write-trees.ensures

pub returns : goal.returns
returns c =
    let pre = c.requires in
    let tree_count_call = c.tree_count-count in
    let ghost-count = c.ghost_count-ghosts in
    let first_tree_call = c.first_tree-first in
    let dimension = c.dimension in
    let faces_in_call = c.faces_in-faces in
    let write-trees = c.write_trees in
    let write-ghosts = c.write_ghosts in
    records_written _ _ _ _ _ pre tree_count_call.ensures ghost-count.ensures first_tree_call.ensures dimension.ensures faces_in_call.ensures.0 refl write-trees.ensures write-ghosts.ensures
