use native.Mathlib.Omega.{arith}
use Rattle.area_check.proofs.Checking.{ghosts_room, ghosts_fail, ghosts_read}
use Rattle.area.proofs.Tabled.{tabled_long}
use Rattle.area_check.proofs.sound.ghosts_sound.Goals as goal

pub first_tree-first-requires : goal.first_tree-first-requires
first_tree-first-requires c = omega (arith, tabled_long c.requires.0 c.rank-rank.ensures)

pub end_tree-end-requires : goal.end_tree-end-requires
end_tree-end-requires c = omega (arith, tabled_long c.requires.0 c.rank-rank.ensures)

pub ghosts_held-requires : goal.ghosts_held-requires
ghosts_held-requires c =
    let pre = c.requires in
    let ghosts = c.ghosts-ghosts in
    let count = c.count-count in
    let dimension = c.dimension in
    let ghost-bound = c.ghost_bound-bound in
    let ranks = c.ranks in
    let ghost-slots-place = c.ghost_slots_place-at in
    (ghosts_room pre.0 ghosts.ensures count.ensures dimension.ensures ghost-bound.ensures.0 pre.1 ranks.ensures ghost-slots-place.ensures.0).0

pub returns-then-not-ghosts_held : goal.returns-then-not-ghosts_held
returns-then-not-ghosts_held c =
    let pre = c.requires in
    let ghosts = c.ghosts-ghosts in
    let count = c.count-count in
    let dimension = c.dimension in
    let ghost-bound = c.ghost_bound-bound in
    let ranks = c.ranks in
    let ghost-slots-place = c.ghost_slots_place-at in
    let trees = c.trees in
    let rank = c.rank-rank in
    let first_tree_call = c.first_tree-first in
    let end-tree = c.end_tree-end in
    let ghosts_held = c.ghosts_held in
    ghosts_fail pre.0 ghosts.ensures count.ensures dimension.ensures ghost-bound.ensures.0 pre.1 ranks.ensures ghost-slots-place.ensures.0 trees.ensures rank.ensures first_tree_call.ensures end-tree.ensures ghosts_held.ensures (c.if-not-ghosts_held.true)

pub slice_bounds-all_zero-count : goal.slice_bounds-all_zero-count
slice_bounds-all_zero-count c =
    let pre = c.requires in
    let ghosts = c.ghosts-ghosts in
    let count = c.count-count in
    let dimension = c.dimension in
    let ghost-bound = c.ghost_bound-bound in
    let ranks = c.ranks in
    let ghost-slots-place = c.ghost_slots_place-at in
    let room = ghosts_room pre.0 ghosts.ensures count.ensures dimension.ensures ghost-bound.ensures.0 pre.1 ranks.ensures ghost-slots-place.ensures.0 in omega (arith, room.2)

pub slice_bounds-all_zero-start : goal.slice_bounds-all_zero-start
slice_bounds-all_zero-start c =
    let pre = c.requires in
    let ghosts = c.ghosts-ghosts in
    let count = c.count-count in
    let dimension = c.dimension in
    let ghost-bound = c.ghost_bound-bound in
    let ranks = c.ranks in
    let ghost-slots-place = c.ghost_slots_place-at in
    let room = ghosts_room pre.0 ghosts.ensures count.ensures dimension.ensures ghost-bound.ensures.0 pre.1 ranks.ensures ghost-slots-place.ensures.0 in omega (arith, room.2)

pub slice_bounds-all_zero-end : goal.slice_bounds-all_zero-end
slice_bounds-all_zero-end c =
    let pre = c.requires in
    let ghosts = c.ghosts-ghosts in
    let count = c.count-count in
    let dimension = c.dimension in
    let ghost-bound = c.ghost_bound-bound in
    let ranks = c.ranks in
    let ghost-slots-place = c.ghost_slots_place-at in
    let room = ghosts_room pre.0 ghosts.ensures count.ensures dimension.ensures ghost-bound.ensures.0 pre.1 ranks.ensures ghost-slots-place.ensures.0 in omega (arith, room.0, room.1)

pub returns : goal.returns
returns c =
    let pre = c.requires in
    let ghosts = c.ghosts-ghosts in
    let count = c.count-count in
    let dimension = c.dimension in
    let ghost-bound = c.ghost_bound-bound in
    let ranks = c.ranks in
    let ghost-slots-place = c.ghost_slots_place-at in
    let trees = c.trees in
    let rank = c.rank-rank in
    let first_tree_call = c.first_tree-first in
    let end-tree = c.end_tree-end in
    let ghosts_held = c.ghosts_held in
    let if1 = c.if-not-ghosts_held in
    ghosts_read pre.0 ghosts.ensures count.ensures dimension.ensures ghost-bound.ensures.0 pre.1 ranks.ensures ghost-slots-place.ensures.0 trees.ensures
    rank.ensures first_tree_call.ensures end-tree.ensures ghosts_held.ensures (if1.false) c.all_zero.ensures
