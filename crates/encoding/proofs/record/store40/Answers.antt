use Rattle.encoding.proofs.Words.Written.{none, next}
use Rattle.encoding.proofs.Words.{words_written}
use Rattle.encoding.specs.Words.{bytes40}
use native.Mathlib.Nat.{add-zero}
use Rattle.encoding.proofs.record.store40.Goals as goal

pub returns : goal.returns
unfolding bytes40
returns c =
    let args = c.args in
    let pre = c.requires in
    let write-u64 = c.write_u64 in
    let write-u642 = c.write_u64-2 in
    let write-u643 = c.write_u64-3 in
    let write-u644 = c.write_u64-4 in
    let write-u645 = c.write_u64-5 in
    rw (← add-zero args.at) (words_written (rw add-zero pre) (next (rw add-zero write-u64.ensures) (next write-u642.ensures (next write-u643.ensures (next write-u644.ensures (next write-u645.ensures none))))))
