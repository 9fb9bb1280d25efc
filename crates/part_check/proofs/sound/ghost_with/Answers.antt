use Rattle.part.proofs.Search.{ascending_at, search_past, search_other, search_found}
use Rattle.part_check.proofs.sound.ghost_with.Goals as goal

pub find_ghost-position-requires : goal.find_ghost-position-requires
find_ghost-position-requires c = ascending_at _ _ _ c.requires c.ghost_at.ensures

pub returns-then-ghosts-position : goal.returns-then-ghosts-position
returns-then-ghosts-position c =
    let pre = c.requires in
    let ghost_at = c.ghost_at in
    let find-ghost = c.find_ghost-position in
    (search_past _ _ _ pre ghost_at.ensures _ find-ghost.ensures.0 c.if-ghosts-position.true, tt)

pub returns-then-number_of-wanted : goal.returns-then-number_of-wanted
returns-then-number_of-wanted c =
    let pre = c.requires in
    let ghost_at = c.ghost_at in
    let find-ghost = c.find_ghost-position in
    let ghost-at2 = c.ghost_at-2 in
    let number_of_call = c.number_of in
    (search_other _ _ _ pre ghost_at.ensures _ find-ghost.ensures.0 ghost-at2.ensures number_of_call.ensures c.if-number_of-wanted.true, tt)

pub returns : goal.returns
returns c =
    let pre = c.requires in
    let ghost_at = c.ghost_at in
    let find-ghost = c.find_ghost-position in
    let ghost-at2 = c.ghost_at-2 in
    let number_of_call = c.number_of in
    let if1 = c.if-ghosts-position in
    (search_found _ _ _ pre ghost_at.ensures _ find-ghost.ensures.0 ghost-at2.ensures number_of_call.ensures if1.false c.if-number_of-wanted.false, c.if-ghosts-position.false)
