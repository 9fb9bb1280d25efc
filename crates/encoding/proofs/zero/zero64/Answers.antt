use Rattle.encoding.proofs.Words.{eight}
use Rattle.encoding.proofs.Numbers.{row_zero}
use Rattle.encoding.specs.Numbers.{u64_at}
use lib.Dec.{eqb}
use native.Mathlib.Nat.{add-zero}
use mathlib.Core.Path.{◌≡◌, ◌∙◌}
use Prim.Native.Nat.{◌+◌, ◌*◌}
use Rattle.encoding.proofs.zero.zero64.Goals as goal

pub returns : goal.returns
returns c =
    let args = c.args in
    let read_u64 = c.read_u64 in
    let read-u642 = c.read_u64-2 in
    let read-u643 = c.read_u64-3 in
    let read-u644 = c.read_u64-4 in
    let read-u645 = c.read_u64-5 in
    let read-u646 = c.read_u64-6 in
    let read-u647 = c.read_u64-7 in
    let a = args in
    let e : read_u64.result ≡ u64_at a.bs.now (a.at + 0) = rw add-zero read_u64.ensures in
    rw (e, read-u642.ensures, read-u643.ensures, read-u644.ensures, read-u645.ensures, read-u646.ensures, read-u647.ensures, c.read_u64-8.ensures)
    (eight (λ k. eqb (u64_at a.bs.now (a.at + 8 * k)) 0) ∙ row_zero 8 8 a.bs.now a.at)
