use native.Mathlib.Omega.{arith}
use Rattle.encoding.proofs.Words.Written.{none, next}
use Rattle.encoding.proofs.Words.{words_written, bytes40_length}
use Rattle.encoding.proofs.Pieces.{splice_then}
use Rattle.encoding.specs.Words.{bytes64}
use Rattle.encoding.proofs.record.store64.Goals as goal

pub returns : goal.returns
unfolding bytes64
returns c =
    let store40 = c.store40 in
    let write-u64 = c.write_u64 in
    let write-u642 = c.write_u64-2 in
    let write-u643 = c.write_u64-3 in
    splice_then _ _ 40 _ _ (bytes40_length _) (omega arith) store40.ensures (words_written (omega arith) (next write-u64.ensures (next write-u642.ensures (next write-u643.ensures none))))
