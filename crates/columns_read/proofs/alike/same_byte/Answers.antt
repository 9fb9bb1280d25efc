use Rattle.columns_read.proofs.Runs.{same_read}
use Rattle.columns_read.proofs.alike.same_byte.Goals as goal

pub returns : goal.returns
returns c = same_read _ _ _ c.bare.ensures c.bare-2.ensures
