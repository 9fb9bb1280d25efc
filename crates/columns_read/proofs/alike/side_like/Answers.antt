use Rattle.columns_read.proofs.Runs.{side_read}
use Rattle.columns_read.proofs.alike.side_like.Goals as goal

pub returns : goal.returns
returns c =
    let counts-on = c.counts_on in
    let same_byte = c.same_byte in
    side_read _ _ _ _ _ counts-on.ensures same_byte.ensures c.same_byte-2.ensures
