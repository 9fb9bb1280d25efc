use Rattle.close_check.proofs.OneLoop.{slots_laid, slots_numbered, slots_join}
use borrow.Author.Rules.{rules}
use Rattle.close_check.proofs.join.join_sound.Goals as goal

pub linked_of_all-requires : goal.linked_of_all-requires
linked_of_all-requires c = (slots_laid (λ i. (c.type_inv.area i).fits) c.requires c.slots_of.ensures (search rules), slots_numbered (λ i. (c.type_inv.area i).fits) c.requires c.slots_of.ensures)

pub returns : goal.returns
returns c = slots_join (λ i. (c.type_inv.area i).fits) c.requires c.slots_of.ensures c.linked_of_all.ensures
