use Rattle.columns_read.proofs.Reading.{link_read}
use Rattle.columns_read.proofs.read.link_ok.Goals as goal

pub returns : goal.returns
returns c =
    let byte = c.byte-code in
    let parted = c.parted-across in
    let byte2 = c.byte in
    let byte3 = c.byte-2 in
    let corners-fit = c.corners_fit in
    let word = c.word in
    link_read _ _ _ _ _ byte.ensures.0 parted.ensures.0 parted.ensures.1.0 byte2.ensures.0 byte3.ensures.0 corners-fit.ensures word.ensures c.byte-3.ensures.0
