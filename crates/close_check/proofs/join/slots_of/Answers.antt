use mathlib.Core.Path.{refl, ap, ap₂, ◌∙◌}
use Rattle.area.specs.Layout.{slots_place, ghost_slots_place}
use Rattle.close_check.proofs.join.slots_of.Goals as goal

-- src/join.rt:12:1
pub returns : goal.returns
returns c =
    let slots-place = c.slots_place in
    let ranks = c.ranks-ranks in
    let ghost-slots-place = c.ghost_slots_place in
    let at_count = c.count-count in
    let at_ghosts = c.ghosts in
    let at_dimension = c.dimension in
    record { head = slots-place.ensures.0 ∙ ap slots_place ranks.ensures; tail = ghost-slots-place.ensures.0 ∙ ap₂ ghost_slots_place ranks.ensures at_count.ensures; number = c.first_tree.ensures.0; count = at_count.ensures; ghosts = at_ghosts.ensures; dimension = at_dimension.ensures; trees = c.trees.ensures; global = refl }
