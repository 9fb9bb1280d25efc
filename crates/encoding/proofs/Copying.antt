-- Laws of copying words.
use Prim.Native.Nat.{ℕ, ◌+◌, ◌*◌, ◌≤◌, ◌<◌}
use native.Mathlib.Omega.{arith}
use mathlib.Core.Path.{◌≡◌, refl, sym, ap, ◌∙◌}
use mathlib.Core.List.{List, [], ◌++◌, append-nil}
use lib.ListN.{length, drop, drop_of_length-le}
use lib.Seq.{take_all}
use Rattle.encoding.specs.Numbers.{u64_at, put_u64, le_put, le_bytes}
use Rattle.encoding.specs.Pieces.{piece, splice, Bytes}
use Rattle.encoding.proofs.Numbers.{at_bytes, length_put}
use Rattle.encoding.proofs.Pieces.{piece_length, piece_add, splice_none, splice_then}

-- what is written over all bytes
pub splice_all : (bs p : List ℕ) → length bs ≤ length p → splice bs 0 p ≡ p
unfolding splice
splice_all bs p h = ap (λ (l : List ℕ). p ++ l) (drop_of_length-le bs (omega (arith, h))) ∙ append-nil p

-- the first i words are copied
pub record Copied (src dst₀ : List ℕ) (i : ℕ) (dst : List ℕ) : Type 0 where
  pub same_length : length dst ≡ length dst₀
  pub written : dst ≡ splice dst₀ 0 (piece src 0 (8 * i))

module _ (src dst₀ : List ℕ) (words : ℕ) (whole : length src ≡ 8 * words) (room : length dst₀ ≡ 8 * words) where
  pub copy_start : Copied src dst₀ 0 dst₀
  unfolding piece
  copy_start = record { same_length = refl; written = sym (splice_none dst₀ 0) }

  pub copy_more : {i w : ℕ} {dst last : List ℕ} → Bytes src → Copied src dst₀ i dst → i < words → w ≡ u64_at src (8 * i) → last ≡ put_u64 dst (8 * i) w → Copied src dst₀ (i + 1) last
  unfolding le_put
  copy_more {i} {w} {dst} {last} b s h r p =
      let here : 8 * i + 8 ≤ length src = omega (arith, whole) in
      let l : length (piece src 0 (8 * i)) ≡ 8 * i = piece_length src 0 (8 * i) (omega arith) in
      let q : le_bytes 8 w ≡ piece src (8 * i) 8 = rw r (at_bytes 8 src (8 * i) b here) in
      let z : 0 + 8 * i ≡ 8 * i = omega arith in
      let e : 8 * (i + 1) ≡ 8 * i + 8 = omega arith in
      let j : piece src 0 (8 * (i + 1)) ≡ piece src 0 (8 * i) ++ le_bytes 8 w =
      ap (piece src 0) e ∙ piece_add src 0 (8 * i) 8 ∙ ap (λ (m : ℕ). piece src 0 (8 * i) ++ piece src m 8) z ∙ ap (λ (x : List ℕ). piece src 0 (8 * i) ++ x) (sym q) in
      record {
        same_length = ap length p ∙ length_put 8 dst (8 * i) w (omega (arith, s.same_length, room)) ∙ s.same_length;
        written = splice_then dst₀ 0 (8 * i) (piece src 0 (8 * i)) (le_bytes 8 w) l (omega (arith, room)) s.written (rw z p) ∙ ap (splice dst₀ 0) (sym j);
      }

  pub copy_done : {i : ℕ} {dst : List ℕ} → Copied src dst₀ i dst → i ≡ words → dst ≡ src
  unfolding piece
  copy_done {i} s e =
      s.written ∙ ap (splice dst₀ 0) (take_all (8 * i) src (omega (arith, whole, e))) ∙ splice_all dst₀ src (omega (arith, whole, room))
