use Rattle.std.proofs.Common.{arith}
use Rattle.columns_read.proofs.Reading.{head_read}
use Rattle.columns_read.proofs.Spaced.{spaced_length}
use Rattle.columns_read.proofs.read.head_ok.Goals as goal

pub returns : goal.returns
returns c =
    let args = c.args in
    let byte = c.byte-shape in
    let shape-ok = c.shape_ok in
    let dimension_of_call = c.dimension_of in
    let byte2 = c.byte in
    let byte3 = c.byte-2 in
    let byte4 = c.byte-3 in
    let byte5 = c.byte-4 in
    head_read _ _ (omega (arith, spaced_length args.bs.now args.at args.step 40)) byte.ensures.0 shape-ok.ensures dimension_of_call.ensures byte2.ensures.0 byte3.ensures.0 byte4.ensures.0 byte5.ensures.0 c.byte-5.ensures.0
