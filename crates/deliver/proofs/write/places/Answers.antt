use Rattle.deliver.proofs.Ready.{placed}
use Rattle.deliver.proofs.write.places.Goals as goal

pub returns : goal.returns
returns c =
    let pre = c.requires in
    let ranks = c.ranks-ranks in
    let count = c.count-count in
    let words-place = c.words_place in
    let sender = c.sender in
    let trees-place = c.trees_place in
    let tree_count_call = c.tree_count in
    let ghost-slots-place = c.ghost_slots_place in
    let ghosts = c.ghosts in
    placed _ _ pre ranks.ensures count.ensures words-place.ensures.0 sender.ensures trees-place.ensures tree_count_call.ensures ghost-slots-place.ensures.0 ghosts.ensures c.ghost_count.ensures
