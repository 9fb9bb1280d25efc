-- Laws of little-endian numbers, once for every width.
use Prim.Native.Nat.{ℕ, zero, suc, ◌+◌, ◌*◌, ◌/◌, ◌%◌, ◌^◌, ◌≤◌, ◌<◌}
use mathlib.Core.Path.{◌≡◌, refl, sym, ap, ◌∙◌}
use mathlib.Core.Bool.{◌&&◌, and-true, and-false}
use mathlib.Core.List.{List, [], ◌∷◌, ◌++◌}
use native.Mathlib.Omega.{arith}
use native.Mathlib.Nat.{not-suc-le-zero, le_of_suc-le-suc, zero-add, suc-add, add-zero, add_assoc, mul-zero, mul-suc, one-le-pow, div-one, div-div-eq-div-mul}
use lib.Arith.{mod-mul}
use native.Mathlib.Numerals.{add-one, add-two, add-three}
use lib.Dec.{eqb, ltb, eqb-suc-zero}
use lib.ListN.{length, get_or, set, length-set, get_or-eq_default}
use borrow.Author.Tests.{ne_eqb}
use Rattle.encoding.specs.Pieces.{piece, splice, Bytes}
use Rattle.encoding.specs.Below.{all_below}
use Rattle.encoding.specs.Words.{zero_at}
use Rattle.encoding.specs.Numbers.{le_value, le_bytes, le_at, le_put}
use Rattle.encoding.proofs.Below.{either, tests, all_same, all_add}
use Rattle.encoding.proofs.Pieces.{splice_next, piece_cons, piece_past, piece_add, piece_length, piece_most, bytes_piece, length_splice, splice_cons, splice_none, splice_then}

pub bytes_length : (w v : ℕ) → length (le_bytes w v) ≡ w
unfolding le_bytes
bytes_length zero v = refl
bytes_length (suc w) v = ap suc (bytes_length w (v / 256))

pub value_bound : (w : ℕ) (bs : List ℕ) → Bytes bs → length bs ≤ w → le_value bs < 256 ^ w
unfolding le_value
value_bound zero [] h l = omega arith
value_bound zero (b ∷ bs) h l = absurd (not-suc-le-zero l)
value_bound (suc w) [] h l =
    let i : 0 < 256 ^ w = value_bound w [] h (omega arith) in
    omega arith
value_bound (suc w) (b ∷ bs) h l =
    let i : le_value bs < 256 ^ w = value_bound w bs (λ j. h (suc j)) (le_of_suc-le-suc l) in
    let z : b < 256 = h zero in
    omega arith

pub value_append : (a b : List ℕ) → le_value (a ++ b) ≡ le_value a + 256 ^ length a * le_value b
unfolding le_value
value_append [] b = omega arith
value_append (x ∷ a) b =
    let e : 256 ^ suc (length a) ≡ 256 * 256 ^ length a = omega arith in
    rw (value_append a b, e) (omega arith)

pub value_bytes : (w v : ℕ) → v < 256 ^ w → le_value (le_bytes w v) ≡ v
unfolding le_value le_bytes
value_bytes zero v h = omega arith
value_bytes (suc w) v h =
    let k : v / 256 < 256 ^ w = omega arith in
    rw (value_bytes w (v / 256) k) (omega arith)

pub bytes_value : (bs : List ℕ) → Bytes bs → le_bytes (length bs) (le_value bs) ≡ bs
unfolding le_value le_bytes
bytes_value [] h = refl
bytes_value (b ∷ bs) h =
    let z : b < 256 = h zero in
    let m : (b + 256 * le_value bs) % 256 ≡ b = omega arith in
    let d : (b + 256 * le_value bs) / 256 ≡ le_value bs = omega arith in
    rw (m, d, bytes_value bs (λ j. h (suc j)))

-- the bytes of v depend on v below 256 ^ w alone
bytes_mod : (w v : ℕ) → le_bytes w (v % 256 ^ w) ≡ le_bytes w v
unfolding le_bytes le_value
bytes_mod zero v = refl
bytes_mod (suc w) v =
    let e : 256 ^ suc w ≡ 256 ^ w * 256 = omega arith in
    let p : 0 < 256 ^ w = value_bound w [] (λ i. omega arith) (omega arith) in
    let m : v % (256 ^ w * 256) ≡ (v / 256 % 256 ^ w) * 256 + v % 256 = mod-mul v p (omega arith) in
    let r : ((v / 256 % 256 ^ w) * 256 + v % 256) % 256 ≡ v % 256 = omega arith in
    let q : ((v / 256 % 256 ^ w) * 256 + v % 256) / 256 ≡ v / 256 % 256 ^ w = omega arith in
    rw (e, m, r, q, bytes_mod w (v / 256))

-- the bytes of m + n places are the low ones, then the high ones
pub bytes_add : (m n v : ℕ) → le_bytes (m + n) v ≡ le_bytes m v ++ le_bytes n (v / 256 ^ m)
unfolding le_bytes
bytes_add zero n v = rw (zero-add n, div-one v)
bytes_add (suc m) n v =
    let e : 256 ^ suc m ≡ 256 * 256 ^ m = omega arith in
    rw (suc-add m n, bytes_add m n (v / 256), e, div-div-eq-div-mul v 256 (256 ^ m))

-- the first byte, then the rest
pub at_step : (w : ℕ) (bs : List ℕ) (off : ℕ) → off < length bs → le_at (suc w) bs off ≡ get_or bs off 0 + 256 * le_at w bs (suc off)
unfolding le_at le_value
at_step w bs off h = rw (piece_cons bs off w h)

-- a number of m + n bytes is its low and its high part
pub at_add : (m n : ℕ) (bs : List ℕ) (off : ℕ) → off + m ≤ length bs → le_at (m + n) bs off ≡ le_at m bs off + 256 ^ m * le_at n bs (off + m)
unfolding le_at
at_add m n bs off h =
    let l : length (piece bs off m) ≡ m = piece_length bs off m h in
    ap le_value (piece_add bs off m n) ∙ (value_append (piece bs off m) (piece bs (off + m) n) ∙ rw l)

pub at_bound : (w : ℕ) (bs : List ℕ) (off : ℕ) → Bytes bs → le_at w bs off < 256 ^ w
unfolding le_at
at_bound w bs off h = value_bound w (piece bs off w) (bytes_piece bs off w h) (piece_most bs off w)

pub length_put : (w : ℕ) (bs : List ℕ) (off v : ℕ) → off + w ≤ length bs → length (le_put w bs off v) ≡ length bs
unfolding le_put
length_put w bs off v h = length_splice bs off (le_bytes w v) (rw (bytes_length w v) h)

-- the first byte is stored, then the rest
pub put_step : (w : ℕ) (bs : List ℕ) (off v : ℕ) → off < length bs → le_put (suc w) bs off v ≡ le_put w (set bs off (v % 256)) (suc off) (v / 256)
unfolding le_put le_bytes
put_step w bs off v h = splice_cons bs off (v % 256) (le_bytes w (v / 256)) h

pub put_none : (bs : List ℕ) (off v : ℕ) → le_put 0 bs off v ≡ bs
unfolding le_put le_bytes
put_none bs off v = splice_none bs off

-- the bytes of the number that stands somewhere are the bytes there
pub at_bytes : (w : ℕ) (bs : List ℕ) (off : ℕ) → Bytes bs → off + w ≤ length bs → le_bytes w (le_at w bs off) ≡ piece bs off w
unfolding le_at
at_bytes w bs off b h = rw (piece_length bs off w h) at (bytes_value (piece bs off w) (bytes_piece bs off w b))

-- a number of no bytes is 0
pub at_none : (bs : List ℕ) (off : ℕ) → le_at 0 bs off ≡ 0
unfolding le_at le_value piece
at_none bs off = refl

-- four bytes in a row, as the code adds them
pub four_bytes : (bs : List ℕ) (off : ℕ) → off + 4 ≤ length bs
    → get_or bs off 0 + 256 * get_or bs (off + 1) 0 + 65536 * get_or bs (off + 2) 0 + 16777216 * get_or bs (off + 3) 0 ≡ le_at 4 bs off
four_bytes bs off h =
    let e0 : le_at 4 bs off ≡ get_or bs off 0 + 256 * le_at 3 bs (suc off) = at_step 3 bs off (omega arith) in
    let e1 : le_at 3 bs (suc off) ≡ get_or bs (suc off) 0 + 256 * le_at 2 bs (suc (suc off)) = at_step 2 bs (suc off) (omega arith) in
    let e2 : le_at 2 bs (suc (suc off)) ≡ get_or bs (suc (suc off)) 0 + 256 * le_at 1 bs (suc (suc (suc off))) = at_step 1 bs (suc (suc off)) (omega arith) in
    let e3 : le_at 1 bs (suc (suc (suc off))) ≡ get_or bs (suc (suc (suc off))) 0 + 256 * le_at 0 bs (suc (suc (suc (suc off)))) = at_step 0 bs (suc (suc (suc off))) (omega arith) in
    rw (add-one off, add-two off, add-three off) (omega (arith, at_none bs (suc (suc (suc (suc off))))))

-- four stores in a row, as the code makes them
pub four_stores : (bs : List ℕ) (off v : ℕ) → off + 4 ≤ length bs
    → set (set (set (set bs off (v % 256)) (off + 1) (v / 256 % 256)) (off + 2) (v / 256 / 256 % 256)) (off + 3) (v / 256 / 256 / 256 % 256) ≡ le_put 4 bs off v
four_stores bs off v h =
    let b1 : List ℕ = set bs off (v % 256) in
    let b2 : List ℕ = set b1 (suc off) (v / 256 % 256) in
    let b3 : List ℕ = set b2 (suc (suc off)) (v / 256 / 256 % 256) in
    let b4 : List ℕ = set b3 (suc (suc (suc off))) (v / 256 / 256 / 256 % 256) in
    rw (add-one off, add-two off, add-three off)
    (sym (put_step 3 bs off v (omega arith)
    ∙ (put_step 2 b1 (suc off) (v / 256) (simp length-set (omega arith))
    ∙ (put_step 1 b2 (suc (suc off)) (v / 256 / 256) (simp length-set (omega arith))
    ∙ (put_step 0 b3 (suc (suc (suc off))) (v / 256 / 256 / 256) (simp length-set (omega arith)) ∙ put_none b4 (suc (suc (suc (suc off)))) (v / 256 / 256 / 256 / 256))))))

-- the low part is stored, then the high part
pub put_add : (m n : ℕ) (bs : List ℕ) (off v : ℕ) → off + m ≤ length bs → le_put n (le_put m bs off (v % 256 ^ m)) (off + m) (v / 256 ^ m) ≡ le_put (m + n) bs off v
unfolding le_put
put_add m n bs off v h =
    rw (bytes_mod m v)
    (splice_then bs off m (le_bytes m v) (le_bytes n (v / 256 ^ m)) (bytes_length m v) h refl refl ∙ ap (splice bs off) (sym (bytes_add m n v)))

-- a number of one byte
pub at_one : (bs : List ℕ) (off : ℕ) → le_at 1 bs off ≡ get_or bs off 0
unfolding le_at le_value
at_one bs off =
    either (ltb off (length bs))
    (λ p. omega (arith, at_step 0 bs off (omega tests), at_none bs (suc off)))
    (λ p. let l : length bs ≤ off = omega tests in rw (piece_past bs off 1 l, get_or-eq_default bs 0 l))

-- the last byte behind the others
at_last : (w : ℕ) (bs : List ℕ) (off : ℕ) → le_at (suc w) bs off ≡ le_at w bs off + 256 ^ length (piece bs off w) * get_or bs (off + w) 0
unfolding le_at
at_last w bs off =
    rw (← add-one w, piece_add bs off w 1, value_append (piece bs off w) (piece bs (off + w) 1)) (ap (λ (b : ℕ). le_at w bs off + 256 ^ length (piece bs off w) * b) (at_one bs (off + w)))

-- a sum is 0 where both parts are
sum_zero : (a p b : ℕ) → 0 < p → eqb (a + p * b) 0 ≡ (eqb a 0 && eqb b 0)
sum_zero a p zero h = rw (mul-zero, add-zero, and-true)
sum_zero a p (suc b) h = rw (eqb-suc-zero b, and-false) (ne_eqb (a + p * suc b) 0 (λ e. omega arith))

-- a number is 0 where each of its bytes is
pub at_zero : (w : ℕ) (bs : List ℕ) (off : ℕ) → eqb (le_at w bs off) 0 ≡ all_below w (λ i. zero_at bs (off + i))
unfolding all_below
at_zero zero bs off = rw (at_none bs off)
at_zero (suc w) bs off =
    let l : ℕ = length (piece bs off w) in
    let p : 0 < 256 ^ l = one-le-pow l 256 (omega arith) in
    rw (at_last w bs off, sum_zero (le_at w bs off) (256 ^ l) (get_or bs (off + w) 0) p, at_zero w bs off)

-- n numbers in a row are 0 where each of their bytes is
pub row_zero : (w n : ℕ) (bs : List ℕ) (off : ℕ) → all_below n (λ k. eqb (le_at w bs (off + w * k)) 0) ≡ all_below (w * n) (λ i. zero_at bs (off + i))
unfolding all_below
row_zero w zero bs off = rw mul-zero
row_zero w (suc n) bs off =
    let s : all_below w (λ i. zero_at bs (off + w * n + i)) ≡ all_below w (λ i. zero_at bs (off + (w * n + i))) =
    all_same w (λ i. zero_at bs (off + w * n + i)) (λ i. zero_at bs (off + (w * n + i))) (λ i h. ap (zero_at bs) (add_assoc off (w * n) i)) in
    rw (mul-suc, all_add (w * n) w (λ i. zero_at bs (off + i)), row_zero w n bs off, at_zero w bs (off + w * n), s)

-- a number written behind what is written already
pub put_next : (w v off : ℕ) (bs a : List ℕ) → length a ≡ off → off ≤ length bs → le_put w (splice bs 0 a) off v ≡ splice bs 0 (a ++ le_bytes w v)
unfolding le_put
put_next w v off bs a l h =
    let z : 0 + length a ≡ off = omega arith in
    rw z at (splice_next bs 0 a (le_bytes w v) (omega arith))
