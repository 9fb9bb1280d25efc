use Rattle.encoding.proofs.Words.Read.{none, next}
use Rattle.encoding.proofs.Words.{words_read}
use Rattle.encoding.specs.Words.{bytes40}
use native.Mathlib.Nat.{add-zero}
use Rattle.encoding.proofs.record.load40.Goals as goal

pub returns : goal.returns
unfolding bytes40
returns c =
    let args = c.args in
    let shared-slice-known = c.shared_slice_known-1 in
    let pre = c.requires in
    let read_u64 = c.read_u64-w0 in
    let read-u642 = c.read_u64-w1 in
    let read-u643 = c.read_u64-w2 in
    let read-u644 = c.read_u64-w3 in
    rw (← add-zero args.at) (words_read (λ i. (shared-slice-known.given i).fits) (rw add-zero pre) (next (rw add-zero read_u64.ensures) (next read-u642.ensures (next read-u643.ensures (next read-u644.ensures (next c.read_u64-w4.ensures none))))))
