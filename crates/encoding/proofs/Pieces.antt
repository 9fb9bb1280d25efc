-- Laws of pieces and splices.
use Prim.Native.Nat.{ℕ, zero, suc, ◌+◌, ◌-◌, ◌≤◌, ◌<◌}
use mathlib.Core.Path.{◌≡◌, refl, sym, ap, ◌∙◌}
use mathlib.Core.List.{List, [], ◌∷◌, ◌++◌, append_assoc}
use native.Mathlib.Nat.{add-zero}
use native.Mathlib.Omega.{arith}
use lib.ListN.{length, get_or, take, drop, set, length-append, length-take, length-drop, take-append-drop, drop_of_length-le}
use lib.Seq.{length-take-le, take-add, drop-drop, drop-cons, take_at, drop_at, get_or-take, get_or-drop, take-append-le, drop-append-le, take-take, drop-set-lt, take-suc-set}
use Rattle.encoding.specs.Pieces.{piece, splice, Bytes}

bytes_take : (n : ℕ) (l : List ℕ) → Bytes l → Bytes (take n l)
bytes_take zero l h i = omega arith
bytes_take (suc n) [] h i = omega arith
bytes_take (suc n) (x ∷ l) h zero = h zero
bytes_take (suc n) (x ∷ l) h (suc i) = bytes_take n l (λ j. h (suc j)) i

module _ (bs : List ℕ) where
  pub piece_length : (off n : ℕ) → off + n ≤ length bs → length (piece bs off n) ≡ n
  unfolding piece
  piece_length off n h = simp (length-take, length-drop) (omega arith)

  pub piece_most : (off n : ℕ) → length (piece bs off n) ≤ n
  unfolding piece
  piece_most off n = simp length-take (omega arith)

  -- a piece begins with the byte at its place
  pub piece_cons : (off n : ℕ) → off < length bs → piece bs off (suc n) ≡ get_or bs off 0 ∷ piece bs (suc off) n
  unfolding piece
  piece_cons off n h = rw (drop-cons bs off 0 h)

  -- nothing stands past the end
  pub piece_past : (off n : ℕ) → length bs ≤ off → piece bs off n ≡ []
  unfolding piece
  piece_past off zero h = refl
  piece_past off (suc n) h = rw (drop_of_length-le bs h)

  -- two pieces in a row are one
  pub piece_add : (off m n : ℕ) → piece bs off (m + n) ≡ piece bs off m ++ piece bs (off + m) n
  unfolding piece
  piece_add off m n = take-add m n (drop off bs) ∙ ap (λ (l : List ℕ). take m (drop off bs) ++ take n l) (drop-drop m off bs)

  pub piece_at : (off n i : ℕ) → i < n → get_or (piece bs off n) i 0 ≡ get_or bs (off + i) 0
  unfolding piece
  piece_at off n i h = get_or-take n (drop off bs) i 0 h ∙ get_or-drop off bs i 0

  pub length_splice : (off : ℕ) (p : List ℕ) → off + length p ≤ length bs → length (splice bs off p) ≡ length bs
  unfolding splice
  length_splice off p h = simp (length-append, length-take, length-drop) (omega arith)

  pub splice_none : (off : ℕ) → splice bs off [] ≡ bs
  unfolding splice
  splice_none off = rw add-zero (take-append-drop off bs)

  -- a splice stores its first byte, then the rest
  pub splice_cons : (off b : ℕ) (p : List ℕ) → off < length bs → splice bs off (b ∷ p) ≡ splice (set bs off b) (suc off) p
  unfolding splice
  splice_cons off b p h =
      let e : off + suc (length p) ≡ suc off + length p = omega arith in
      let k : off < suc off + length p = omega arith in
      rw (take-suc-set bs off b h, drop-set-lt (suc off + length p) bs off b k, append_assoc, e)

  -- below and above the splice all is as before
  pub splice_take : (off : ℕ) (p : List ℕ) → off + length p ≤ length bs → take (off + length p) (splice bs off p) ≡ take off bs ++ p
  unfolding splice
  splice_take off p h =
      let l : length (take off bs ++ p) ≡ off + length p = simp (length-append, length-take) (omega arith) in
      rw (← append_assoc (take off bs) p (drop (off + length p) bs)) (take_at (take off bs ++ p) (drop (off + length p) bs) (off + length p) l)

  pub splice_drop : (off : ℕ) (p : List ℕ) → off + length p ≤ length bs → drop (off + length p) (splice bs off p) ≡ drop (off + length p) bs
  unfolding splice
  splice_drop off p h =
      let l : length (take off bs ++ p) ≡ off + length p = simp (length-append, length-take) (omega arith) in
      rw (← append_assoc (take off bs) p (drop (off + length p) bs)) (drop_at (take off bs ++ p) (drop (off + length p) bs) (off + length p) l)

  inside : (at n off : ℕ) → at + n ≤ off → off ≤ length bs → take n (drop at (take off bs)) ≡ take n (drop at bs)
  inside at n off k h =
      let e : off ≡ at + (off - at) = omega arith in
      let l : length (take at bs) ≡ at = length-take-le at bs (omega arith) in
      let t : take off bs ≡ take at bs ++ take (off - at) (drop at bs) = ap (λ (m : ℕ). take m bs) e ∙ take-add at (off - at) bs in
      rw (t, drop_at (take at bs) (take (off - at) (drop at bs)) at l, take-take n (off - at) (drop at bs) (omega arith))

  -- what was written is read
  pub piece_same : (off : ℕ) (p : List ℕ) → off + length p ≤ length bs → piece (splice bs off p) off (length p) ≡ p
  unfolding piece splice
  piece_same off p h =
      let l : length (take off bs) ≡ off = length-take-le off bs (omega arith) in
      rw (drop_at (take off bs) (p ++ drop (off + length p) bs) off l) (take_at p (drop (off + length p) bs) (length p) refl)

  pub piece_below : (off : ℕ) (p : List ℕ) (at n : ℕ) → off + length p ≤ length bs → at + n ≤ off → piece (splice bs off p) at n ≡ piece bs at n
  unfolding piece splice
  piece_below off p at n h k =
      let l : length (take off bs) ≡ off = length-take-le off bs (omega arith) in
      let m : at ≤ length (take off bs) = omega arith in
      let q : n ≤ length (drop at (take off bs)) = simp length-drop (omega arith) in
      rw (drop-append-le at (take off bs) (p ++ drop (off + length p) bs) m, take-append-le n (drop at (take off bs)) (p ++ drop (off + length p) bs) q)
      (inside at n off k (omega arith))

  pub piece_above : (off : ℕ) (p : List ℕ) (at n : ℕ) → off + length p ≤ length bs → off + length p ≤ at → piece (splice bs off p) at n ≡ piece bs at n
  unfolding piece
  piece_above off p at n h k =
      let e : off + length p + (at - (off + length p)) ≡ at = omega arith in
      rw (← e, ← drop-drop (at - (off + length p)) (off + length p) (splice bs off p), splice_drop off p h, drop-drop)

  -- two splices in a row are one
  pub splice_next : (off : ℕ) (a b : List ℕ) → off + length a ≤ length bs → splice (splice bs off a) (off + length a) b ≡ splice bs off (a ++ b)
  unfolding splice
  splice_next off a b h =
      let s : take (off + length a) (splice bs off a) ≡ take off bs ++ a = splice_take off a h in
      let d : drop (off + length a + length b) (splice bs off a) ≡ drop (off + length a + length b) bs =
      sym (drop-drop (length b) (off + length a) (splice bs off a)) ∙ (ap (drop (length b)) (splice_drop off a h) ∙ drop-drop (length b) (off + length a) bs) in
      let e : off + length (a ++ b) ≡ off + length a + length b = simp length-append (omega arith) in
      ap (λ (l : List ℕ). l ++ (b ++ drop (off + length a + length b) (splice bs off a))) s
      ∙ (ap (λ (l : List ℕ). (take off bs ++ a) ++ (b ++ l)) d
      ∙ (ap (λ (m : ℕ). (take off bs ++ a) ++ (b ++ drop m bs)) (sym e) ∙ simp append_assoc))

  -- the same as two steps, where the first is n bytes long
  pub splice_then : {mid last : List ℕ} (off n : ℕ) (a b : List ℕ) → length a ≡ n → off + n ≤ length bs → mid ≡ splice bs off a → last ≡ splice mid (off + n) b
      → last ≡ splice bs off (a ++ b)
  splice_then off n a b e h p q = rw (q, p, ← e) (splice_next off a b (rw e h))

  -- a splice of what equals q is a splice of q
  pub splice_of : {p q last : List ℕ} (off : ℕ) → last ≡ splice bs off p → p ≡ q → last ≡ splice bs off q
  splice_of off e h = e ∙ ap (splice bs off) h

  -- writing what stands there changes nothing
  pub splice_piece : (off n : ℕ) → off + n ≤ length bs → splice bs off (piece bs off n) ≡ bs
  unfolding splice piece
  splice_piece off n h =
      let l : length (take n (drop off bs)) ≡ n = piece_length off n h in
      rw (l, ← drop-drop n off bs, take-append-drop n (drop off bs), take-append-drop)

  pub bytes_piece : (off n : ℕ) → Bytes bs → Bytes (piece bs off n)
  unfolding piece
  bytes_piece off n h = bytes_take n (drop off bs) (λ i. rw get_or-drop (h (off + i)))
