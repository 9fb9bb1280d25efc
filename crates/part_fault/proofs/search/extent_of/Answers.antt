use Rattle.part_fault.proofs.Found.{extent_known}
use Rattle.part_fault.proofs.search.extent_of.Goals as goal

pub returns : goal.returns
returns c =
    let first_tree_call = c.first_tree-first in
    let tree_count_call = c.tree_count-count in
    let ghost-count = c.ghost_count-ghosts in
    let trees = c.trees-trees in
    let pre = c.requires in
    let ghosts-found = c.ghosts_found in
    extent_known _ first_tree_call.ensures tree_count_call.ensures ghost-count.ensures trees.ensures c.dimension.ensures pre ghosts-found.ensures
