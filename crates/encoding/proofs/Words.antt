-- Laws of records as words of 8 bytes, and of the zero test.
use Prim.Native.Nat.{ℕ, suc, ◌+◌, ◌*◌, ◌≤◌, ◌<◌}
use mathlib.Core.Path.{◌≡◌, refl, sym, ◌∙◌}
use mathlib.Core.Bool.{Bool, true, false, ◌&&◌}
use mathlib.Core.List.{List, [], ◌∷◌}
use native.Mathlib.Omega.{arith}
use lib.Dec.{ltb}
use lib.ListN.{length, get_or, replicate, length-append, length-replicate, get_or-replicate, get_or-eq_default}
use lib.Seq.{ext_get_or}
use borrow.Author.Tests.{eqb-true, eq-eqb}
use Rattle.encoding.specs.declared.record.Words40.{Words40}
use Rattle.encoding.specs.Pieces.{piece, splice, Bytes}
use Rattle.encoding.specs.Numbers.{le_bytes, le_put, u64_at, put_u64}
use Rattle.encoding.specs.Below.{all_below}
use Rattle.encoding.specs.Words.{word_bytes, bytes40, zero_at, all_zero}
use Rattle.encoding.proofs.Below.{either, clash, tests, all_at, all_intro, all_add}
use Rattle.encoding.proofs.Pieces.{piece_add, splice_none, splice_then}
use Rattle.encoding.proofs.Numbers.{bytes_length, at_bytes, length_put}

-- 8 bytes a word
pub words_length : (ws : List ℕ) → length (word_bytes ws) ≡ length ws * 8
unfolding word_bytes
words_length [] = refl
words_length (w ∷ ws) = rw (length-append, bytes_length 8 w, words_length ws) (omega arith)

-- a record of 40 bytes is as long
pub bytes40_length : (r : Words40) → length (bytes40 r) ≡ 40
unfolding bytes40
bytes40_length r = words_length (r.w0 ∷ r.w1 ∷ r.w2 ∷ r.w3 ∷ r.w4 ∷ [])

-- the words were read one after the other, the first at off + k
pub data Read (bs : List ℕ) (off : ℕ) : ℕ → List ℕ → Type 0 where
  none : {k : ℕ} → Read bs off k []
  next : {k w : ℕ} {ws : List ℕ} → w ≡ u64_at bs (off + k) → Read bs off (k + 8) ws → Read bs off k (w ∷ ws)

-- their bytes are what stands there
pub words_read : {bs : List ℕ} {off k : ℕ} {ws : List ℕ} → Bytes bs → off + k + length ws * 8 ≤ length bs → Read bs off k ws → word_bytes ws ≡ piece bs (off + k) (length ws * 8)
unfolding word_bytes piece
words_read b h none = refl
words_read {bs} {off} b h (next {k} {w} {ws} e r) =
    let s : off + k + 8 ≡ off + (k + 8) = omega arith in
    let m : suc (length ws) * 8 ≡ 8 + length ws * 8 = omega arith in
    let a : le_bytes 8 w ≡ piece bs (off + k) 8 = rw e (at_bytes 8 bs (off + k) b (omega arith)) in
    let i : word_bytes ws ≡ piece bs (off + (k + 8)) (length ws * 8) = words_read b (omega arith) r in
    rw (a, i, m, piece_add bs (off + k) 8 (length ws * 8), s)

-- the words were written one after the other, the first at off + k: the first list is the buffer before, the second the buffer after
pub data Written (off : ℕ) : ℕ → List ℕ → List ℕ → List ℕ → Type 0 where
  none : {k : ℕ} {bs : List ℕ} → Written off k [] bs bs
  next : {k w : ℕ} {ws bs mid last : List ℕ} → mid ≡ put_u64 bs (off + k) w → Written off (k + 8) ws mid last → Written off k (w ∷ ws) bs last

-- their bytes stand there
pub words_written : {off k : ℕ} {ws bs last : List ℕ} → off + k + length ws * 8 ≤ length bs → Written off k ws bs last → last ≡ splice bs (off + k) (word_bytes ws)
unfolding word_bytes le_put
words_written {off} {k} {bs} h none = sym (splice_none bs (off + k))
words_written {off} h (next {k} {w} {ws} {bs} {mid} {last} e r) =
    let s : off + (k + 8) ≡ off + k + 8 = omega arith in
    let l : length mid ≡ length bs = rw e (length_put 8 bs (off + k) w (omega arith)) in
    let i : last ≡ splice mid (off + (k + 8)) (word_bytes ws) = words_written (omega arith) r in
    splice_then bs (off + k) 8 (le_bytes 8 w) (word_bytes ws) (bytes_length 8 w) (omega arith) e (rw s at i)

-- ---- the zero test

-- eight tests, as the code joins them
pub eight : (f : ℕ → Bool) → (f 0 && f 1 && f 2 && f 3 && f 4 && f 5 && f 6 && f 7) ≡ all_below 8 f
unfolding all_below
eight f = refl

-- one more turn of a loop that tests m at a time
pub block_more : (m i : ℕ) (f : ℕ → Bool) → all_below i f ≡ true → all_below m (λ k. f (i + k)) ≡ true → all_below (i + m) f ≡ true
block_more m i f a e = rw (all_add i m f, a, e)

-- a block that fails makes all fail
pub block_fails : (m n i : ℕ) (f : ℕ → Bool) → i + m ≤ n → all_below m (λ k. f (i + k)) ≡ false → all_below n f ≡ false
block_fails m n i f h e = either (all_below n f) (λ p. clash (all_intro m (λ k. f (i + k)) (λ k q. all_at n f p (i + k) (omega arith))) e) (λ p. p)

-- where all are 0, each is
pub zero_at_lem : (bs : List ℕ) → all_zero bs ≡ true → (i : ℕ) → get_or bs i 0 ≡ 0
unfolding all_zero
zero_at_lem bs e i =
    either (ltb i (length bs)) (λ p. eqb-true (get_or bs i 0) 0 (all_at (length bs) (zero_at bs) e i (omega tests))) (λ p. get_or-eq_default bs 0 (omega tests))

-- where each is 0, all are
pub zero_intro : (bs : List ℕ) → ((i : ℕ) → i < length bs → get_or bs i 0 ≡ 0) → all_zero bs ≡ true
unfolding all_zero
zero_intro bs h = all_intro (length bs) (zero_at bs) (λ i p. eq-eqb (get_or bs i 0) 0 (h i p))

-- such bytes are as many zeros
pub zero_replicate : (bs : List ℕ) → all_zero bs ≡ true → bs ≡ replicate (length bs) 0
zero_replicate bs e =
    ext_get_or 0 bs (replicate (length bs) 0) (sym (length-replicate (length bs) 0)) (λ i p. zero_at_lem bs e i ∙ sym (get_or-replicate (length bs) i 0 0 p))
