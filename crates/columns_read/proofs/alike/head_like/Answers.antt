use Rattle.columns_read.proofs.Runs.{head_read}
use Rattle.columns_read.proofs.alike.head_like.Goals as goal

pub returns : goal.returns
returns c =
    let counts-on = c.counts_on in
    let same_byte = c.same_byte in
    let same-byte2 = c.same_byte-2 in
    let same-byte3 = c.same_byte-3 in
    let same-byte4 = c.same_byte-4 in
    let same-byte5 = c.same_byte-5 in
    head_read _ _ _ _ counts-on.ensures same_byte.ensures same-byte2.ensures same-byte3.ensures same-byte4.ensures same-byte5.ensures c.same_byte-6.ensures
