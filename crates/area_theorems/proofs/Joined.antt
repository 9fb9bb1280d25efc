-- Laws of lists that are joined from others: their pieces, numbers in a row, slots in a row.
use Prim.Native.Nat.{ℕ, zero, suc, ◌+◌, ◌-◌, ◌*◌, ◌≤◌, ◌<◌}
use native.Mathlib.Nat.{le_refl, mul-le-mul_left}
use native.Mathlib.Omega.{arith}
use mathlib.Core.Path.{◌≡◌, refl, sym, ap, ap₂, ◌∙◌}
use mathlib.Core.List.{List, [], ◌∷◌, ◌++◌, append_assoc}
use lib.ListN.{length, get_or, drop, replicate, length-append, length-drop, length-replicate, replicate-append-replicate}
use lib.Seq.{take-append-le, drop-append-le, drop-append-add, take_all, take_at, drop_at}
use Rattle.encoding.specs.Numbers.{le_value, le_bytes, le_at, u32_at}
use Rattle.encoding.specs.Pieces.{piece}
use Rattle.encoding.proofs.Below.{below_suc}
use Rattle.encoding.proofs.Numbers.{bytes_length, value_bytes}
use Rattle.encoding.proofs.Pieces.{piece_add}
use Rattle.area.specs.Layout.{slots_of}

-- ---- pieces of two lists

-- a piece of the first
pub piece_first : (a b : List ℕ) (off n : ℕ) → off + n ≤ length a → piece (a ++ b) off n ≡ piece a off n
unfolding piece
piece_first a b off n h =
    let l : n ≤ length (drop off a) = simp length-drop (omega arith) in
    rw (drop-append-le off a b (omega arith), take-append-le n (drop off a) b l)

-- a piece of the second, where the first has m bytes
pub piece_behind : (a b : List ℕ) (m off at n : ℕ) → length a ≡ m → at ≡ m + off → piece (a ++ b) at n ≡ piece b off n
unfolding piece
piece_behind a b m off at n e h = rw (h, ← e, drop-append-add a b off)

-- all of the first
pub piece_start : (a b : List ℕ) (n : ℕ) → length a ≡ n → piece (a ++ b) 0 n ≡ a
unfolding piece
piece_start a b n e = take_at a b n e

-- all of the second
pub piece_last : (a b : List ℕ) (off n : ℕ) → length a ≡ off → length b ≡ n → piece (a ++ b) off n ≡ b
unfolding piece
piece_last a b off n e l = rw (drop_at a b off e) (take_all n b (omega arith))

-- of equal bytes
pub piece_replicate : (N x off n : ℕ) → off + n ≤ N → piece (replicate N x) off n ≡ replicate n x
piece_replicate N x off n h =
    let e : N ≡ off + (n + (N - off - n)) = omega arith in
    let s : replicate N x ≡ replicate off x ++ (replicate n x ++ replicate (N - off - n) x) =
    ap (λ (m : ℕ). replicate m x) e
    ∙ (sym (replicate-append-replicate off (n + (N - off - n)) x)
    ∙ ap (λ (l : List ℕ). replicate off x ++ l) (sym (replicate-append-replicate n (N - off - n) x))) in
    ap (λ (l : List ℕ). piece l off n) s
    ∙ (piece_behind (replicate off x) (replicate n x ++ replicate (N - off - n) x) off 0 off n (length-replicate off x) (omega arith)
    ∙ piece_start (replicate n x) (replicate (N - off - n) x) n (length-replicate n x))

-- ---- numbers of 32 bits in a row

unfoldable pub words : List ℕ → List ℕ
words [] = []
words (v ∷ vs) = le_bytes 4 v ++ words vs

-- number i is read back
pub word_at_lem : (vs rest : List ℕ) (i : ℕ) → i < length vs → get_or vs i 0 < 4294967296 → u32_at (words vs ++ rest) (4 * i) ≡ get_or vs i 0
unfolding words le_at
word_at_lem [] rest i h b = absurd (omega arith)
word_at_lem (v ∷ vs) rest zero h b = rw append_assoc (ap le_value (piece_start (le_bytes 4 v) (words vs ++ rest) 4 (bytes_length 4 v)) ∙ value_bytes 4 v b)
word_at_lem (v ∷ vs) rest (suc i) h b =
    rw append_assoc
    (ap le_value (piece_behind (le_bytes 4 v) (words vs ++ rest) 4 (4 * i) (4 * suc i) 4 (bytes_length 4 v) (omega arith)) ∙ word_at_lem vs rest i (omega arith) b)

-- ---- slots in a row

-- slots of w bytes each
module _ (slot : ℕ → List ℕ) (w : ℕ) where
  pub slots_length : (n : ℕ) → ((i : ℕ) → i < n → length (slot i) ≡ w) → length (slots_of slot n) ≡ w * n
  unfolding slots_of
  slots_length zero l = omega arith
  slots_length (suc n) l = rw (length-append, slots_length n (λ i h. l i (omega arith)), l n (le_refl (suc n))) (omega arith)

  -- slot i is read back
  pub slots_at : (n : ℕ) → ((i : ℕ) → i < n → length (slot i) ≡ w) → (i : ℕ) → i < n → piece (slots_of slot n) (w * i) w ≡ slot i
  unfolding slots_of
  slots_at zero l i h = absurd (omega arith)
  slots_at (suc n) l i h =
      let l' : (j : ℕ) → j < n → length (slot j) ≡ w = λ j a. l j (omega arith) in
      let R : List ℕ = slots_of slot n in
      let lR : length R ≡ w * n = slots_length n l' in
      below_suc i n h
      (λ a. piece_first R (slot n) (w * i) w (omega (arith, mul-le-mul_left w a)) ∙ slots_at n l' i a)
      (λ e. piece_last R (slot n) (w * i) w (rw e lR) (l n (le_refl (suc n))) ∙ ap slot (sym e))

-- the slots depend on those below n
pub slots_same : (f g : ℕ → List ℕ) (n : ℕ) → ((i : ℕ) → i < n → f i ≡ g i) → slots_of f n ≡ slots_of g n
unfolding slots_of
slots_same f g zero h = refl
slots_same f g (suc n) h = ap₂ (λ (a b : List ℕ). a ++ b) (slots_same f g n (λ i l. h i (omega arith))) (h n (le_refl (suc n)))

-- pieces in a row are one
pub slots_piece : (bs : List ℕ) (off w n : ℕ) → slots_of (λ i. piece bs (off + w * i) w) n ≡ piece bs off (w * n)
unfolding slots_of piece
slots_piece bs off w zero = let e : w * 0 ≡ 0 = omega arith in rw e
slots_piece bs off w (suc n) =
    let e : w * suc n ≡ w * n + w = omega arith in
    rw (slots_piece bs off w n, e) (sym (piece_add bs off (w * n) w))

-- n slots of w zeros
pub slots_replicate : (x w n : ℕ) → slots_of (λ i. replicate w x) n ≡ replicate (w * n) x
unfolding slots_of
slots_replicate x w zero = let e : w * 0 ≡ 0 = omega arith in rw e
slots_replicate x w (suc n) =
    let e : w * suc n ≡ w * n + w = omega arith in
    rw (slots_replicate x w n, e) (replicate-append-replicate (w * n) w x)
