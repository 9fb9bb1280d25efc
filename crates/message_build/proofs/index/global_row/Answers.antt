use Rattle.part.specs.Means.{row_with}
use Rattle.message_build.proofs.index.global_row.Goals as goal

pub returns : goal.returns
unfolding row_with
returns c = rw c.global_index-number.ensures
