use Rattle.std.proofs.Common.{arith}
use Rattle.columns_read.proofs.Reading.{word_read}
use Rattle.columns_read.proofs.Spaced.{spaced_length}
use Rattle.columns_read.proofs.read.word.Goals as goal

pub returns : goal.returns
returns c =
    let args = c.args in
    let byte = c.byte in
    let byte2 = c.byte-2 in
    let byte3 = c.byte-3 in
    word_read _ _ (omega (arith, spaced_length args.bs.now args.at args.step 40)) byte.ensures.0 byte2.ensures.0 byte3.ensures.0 c.byte-4.ensures.0
