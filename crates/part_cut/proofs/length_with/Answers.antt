use Rattle.part_cut.proofs.Marking.{cut_space}
use Rattle.part_cut.proofs.Parts.{found_long}
use Rattle.part_cut.proofs.length_with.Goals as goal

pub measure-part-requires : goal.measure-part-requires
measure-part-requires g c = cut_space c.requires

pub returns : goal.returns
returns g c = found_long (cut_space c.requires) (λ i. (c.type_inv.table i).fits) c.measure-part.ensures c.ghost_at.ensures
