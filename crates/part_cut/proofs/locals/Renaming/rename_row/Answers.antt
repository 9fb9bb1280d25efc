use Rattle.part.specs.Means.{row_with}
use Rattle.part_cut.proofs.locals.Renaming.rename_row.Goals as goal

pub returns : goal.returns
unfolding row_with
returns c = rw c.local_index-index.ensures
