use native.Mathlib.Omega.{arith}
use Rattle.encoding.proofs.Words.Read.{none, next}
use Rattle.encoding.proofs.Words.{words_read}
use Rattle.encoding.proofs.Pieces.{piece_add}
use Rattle.encoding.specs.Words.{bytes64}
use mathlib.Core.List.{◌++◌}
use mathlib.Core.Path.{sym, ap₂, ◌∙◌}
use Rattle.encoding.proofs.record.load64.Goals as goal

pub returns : goal.returns
unfolding bytes64
returns c =
    let load40 = c.load40-core in
    let shared-slice-known = c.shared_slice_known-1 in
    let read_u64 = c.read_u64-w5 in
    let read-u642 = c.read_u64-w6 in
    ap₂ ◌++◌ load40.ensures (words_read (λ i. (shared-slice-known.given i).fits) (omega arith) (next read_u64.ensures (next read-u642.ensures (next c.read_u64-w7.ensures none)))) ∙ sym (piece_add _ _ 40 24)
