use Rattle.close.proofs.Joining.{trees_room, ghosts_room, join_written}
use mathlib.Core.Path.{ap, ◌∙◌}
use Rattle.records.specs.Shape.{faces_in}
use borrow.Author.Rules.{rules}
use Rattle.close.proofs.join.write_part.Goals as goal

pub write_trees-requires : goal.write_trees-requires
write_trees-requires c =
    let pre = c.requires in
    let shared-slice-known = c.shared_slice_known-1 in
    let ranks = c.ranks-ranks in
    let first_tree_call = c.first_tree-tree in
    let count = c.count-n in
    let ghosts = c.ghosts-ghosts in
    let faces_in_call = c.faces_in-faces in
    let dimension = c.dimension-dimension in
    let slots-place = c.slots_place-from in
    let ghost-slots-place = c.ghost_slots_place-at in
    trees_room _ _ pre.0 (λ i. (shared-slice-known.given i).fits)
    (record {
      is_p = ranks.ensures;
      is_first = first_tree_call.ensures.0;
      is_n = count.ensures;
      is_g = ghosts.ensures;
      is_f = faces_in_call.ensures.0 ∙ ap faces_in dimension.ensures;
      is_from = slots-place.ensures.0;
      is_at = ghost-slots-place.ensures.0;
    })
    pre.1 (search rules)

pub write_ghosts-requires : goal.write_ghosts-requires
write_ghosts-requires c =
    let pre = c.requires in
    let shared-slice-known = c.shared_slice_known-1 in
    let ranks = c.ranks-ranks in
    let first_tree_call = c.first_tree-tree in
    let count = c.count-n in
    let ghosts = c.ghosts-ghosts in
    let faces_in_call = c.faces_in-faces in
    let dimension = c.dimension-dimension in
    let slots-place = c.slots_place-from in
    let ghost-slots-place = c.ghost_slots_place-at in
    ghosts_room _ _ pre.0 (λ i. (shared-slice-known.given i).fits)
    (record {
      is_p = ranks.ensures;
      is_first = first_tree_call.ensures.0;
      is_n = count.ensures;
      is_g = ghosts.ensures;
      is_f = faces_in_call.ensures.0 ∙ ap faces_in dimension.ensures;
      is_from = slots-place.ensures.0;
      is_at = ghost-slots-place.ensures.0;
    })
    (search rules)

pub returns : goal.returns
returns c =
    let pre = c.requires in
    let shared-slice-known = c.shared_slice_known-1 in
    let ranks = c.ranks-ranks in
    let first_tree_call = c.first_tree-tree in
    let count = c.count-n in
    let ghosts = c.ghosts-ghosts in
    let faces_in_call = c.faces_in-faces in
    let dimension = c.dimension-dimension in
    let slots-place = c.slots_place-from in
    let ghost-slots-place = c.ghost_slots_place-at in
    let trees = c.trees in
    let rank = c.rank in
    let write-eight = c.write_eight in
    let write-trees = c.write_trees in
    let write-ghosts = c.write_ghosts in
    join_written _ _ pre.0 (λ i. (shared-slice-known.given i).fits)
    (record {
      is_p = ranks.ensures;
      is_first = first_tree_call.ensures.0;
      is_n = count.ensures;
      is_g = ghosts.ensures;
      is_f = faces_in_call.ensures.0 ∙ ap faces_in dimension.ensures;
      is_from = slots-place.ensures.0;
      is_at = ghost-slots-place.ensures.0;
    })
    pre.1 dimension.ensures trees.ensures rank.ensures write-eight.ensures write-trees.ensures write-ghosts.ensures
