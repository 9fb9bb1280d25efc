use Rattle.close_check.proofs.OneLoop.{slots_marked, slots_numbered, slots_room, slots_join}
use borrow.Author.Rules.{rules}
use Rattle.close_check.proofs.join.join_by.Goals as goal

pub linked_by-requires : goal.linked_by-requires
linked_by-requires c =
    let pre = c.requires in
    let slots = c.slots_of.ensures in
    (slots_marked (λ i. (c.type_inv.area i).fits) pre.0 slots (search rules) pre.1, slots_numbered (λ i. (c.type_inv.area i).fits) pre.0 slots, slots_room (λ i. (c.type_inv.area i).fits) pre.0 slots pre.2)

pub returns : goal.returns
returns c = slots_join (λ i. (c.type_inv.area i).fits) c.requires.0 c.slots_of.ensures c.linked_by.ensures
