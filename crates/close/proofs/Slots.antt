-- Laws of the area's ghosts, copied.
use Prim.Native.Nat.{ℕ, ◌+◌, ◌-◌, ◌*◌, ◌≤◌}
use native.Mathlib.Omega.{arith}
use mathlib.Core.Path.{◌≡◌, ap, ◌∙◌}
use mathlib.Core.List.{List}
use lib.ListN.{length, take, drop}
use borrow.Rule.Slice.PartMut.{put_mid}
use Rattle.encoding.specs.Pieces.{piece, splice}
use Rattle.encoding.proofs.Pieces.{piece_length}
use Rattle.records.specs.Record.{core_size}
use Rattle.area.proofs.Copying.{part_written}

pub ghosts_copied : (a out : List ℕ) (from count to : ℕ) {p : List ℕ} → from + core_size * count ≤ length a → p ≡ take (from + 40 * count - from) (drop from a)
    → put_mid to (to + 40 * count - to) out p ≡ splice out to (piece a from (core_size * count))
unfolding piece
ghosts_copied a out from count to h c =
    let e : from + 40 * count - from ≡ core_size * count = omega arith in
    part_written out to (to + 40 * count - to) (c ∙ ap (λ (m : ℕ). take m (drop from a)) e) (omega (arith, piece_length a from (core_size * count) h))
