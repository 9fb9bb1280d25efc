-- A write to a part of a buffer is a splice.
use Prim.Native.Nat.{ℕ, ◌+◌, ◌≤◌}
use native.Mathlib.Omega.{arith}
use mathlib.Core.Path.{◌≡◌}
use mathlib.Core.List.{List}
use lib.ListN.{length}
use lib.Seq.{drop-drop}
use borrow.Rule.Slice.PartMut.{put_mid}
use Rattle.encoding.specs.Pieces.{splice}
use Rattle.encoding.proofs.Pieces.{length_splice}

module _ (bs : List ℕ) (a k : ℕ) {p q : List ℕ} (is : p ≡ q) (whole : length q ≡ k) where
  pub part_written : put_mid a k bs p ≡ splice bs a q
  unfolding splice
  part_written = rw (is, whole, drop-drop k a bs)

  pub part_length : a + k ≤ length bs → length (put_mid a k bs p) ≡ length bs
  part_length h = rw part_written (length_splice bs a q (omega arith))
