use Rattle.columns_read.proofs.Runs.{counts_read}
use Rattle.columns_read.proofs.alike.counts_on.Goals as goal

pub returns : goal.returns
returns c =
    let bare = c.bare in
    let bare2 = c.bare-2 in
    let wrapping-add-u8 = c.wrapping_add_u8 in
    let same_byte = c.same_byte in
    let same-byte2 = c.same_byte-2 in
    counts_read _ _ _ _ bare.ensures bare2.ensures wrapping-add-u8.ensures.value same_byte.ensures same-byte2.ensures c.same_byte-3.ensures
