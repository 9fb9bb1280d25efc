-- Laws of bits, and of sets as words.
use Prim.Native.Nat.{ℕ, zero, suc, ◌+◌, ◌-◌, ◌*◌, ◌/◌, ◌%◌, ◌^◌, ◌≤◌, ◌<◌, max}
use native.Mathlib.Nat.{add-zero, mul-zero, mod-lt, mod-one, zero-div, div_self, div-eq_of_lt, mod-eq_of_lt, lt_of_lt_of_le, pow-suc, mul-mod_left}
use native.Mathlib.Omega.{arith}
use mathlib.Core.Path.{◌≡◌, refl, sym, ap, ap₂, ◌∙◌}
use mathlib.Core.Bool.{Bool, false, cond, ◌||◌, or_comm}
use mathlib.Core.List.{List}
use lib.Bits.{bit_and, bit_or, and_block, and_mask, and_zero_r, or_add_and, or_step, or_shr, or_lt}
use lib.Count.{ones, ones_in, ones_cat}
use lib.Dec.{eqb, ltb}
use lib.ListN.{length, get_or, replicate, length-set, length-replicate, get_or-replicate, get_or-eq_default}
use lib.Pow.{pow_pos, pow_mono, pow-lt, pow-add, shl_exact, shl-shr, shr-shr, split, mod-pow-add}
use lib.Seq.{get_or-set_same, get_or-set_other}
use borrow.Author.Tests.{eqb-true, eqb-false, eq-eqb, ne_eqb}
use Rattle.encoding.specs.Below.{count_below, sum_below}
use Rattle.encoding.proofs.Below.{tests, either, count_same, count_add}
use Rattle.bits.specs.Bits.{bit_of, with_bit, in_set, with_member}

-- ---- bits of a word

pub bit_zero : (b : ℕ) → bit_of 0 b ≡ false
unfolding bit_of
bit_zero b = rw (zero-div (2 ^ b))

-- a shift to the right drops the low bits
pub bit_shift : (w a b : ℕ) → bit_of (w / 2 ^ a) b ≡ bit_of w (a + b)
unfolding bit_of
bit_shift w a b = rw (shr-shr w a b)

-- no bit is set past the width
pub bit_past : (w n b : ℕ) → w < 2 ^ n → n ≤ b → bit_of w b ≡ false
unfolding bit_of
bit_past w n b h l = rw (div-eq_of_lt (lt_of_lt_of_le h (pow_mono {i = n} {j = b} l)))

-- the lowest bit is 1 or 0
pub digit : (x : ℕ) → eqb (x % 2) 1 ≡ false → x % 2 ≡ 0
digit x e = either (eqb (x % 2) 0) (eqb-true (x % 2) 0) (λ p. absurd (omega (arith, eqb-false (x % 2) 0 p, eqb-false (x % 2) 1 e, mod-lt x {m = 2} (omega arith))))

or_digit : (q x y : ℕ) → eqb ((q * 2 + max (x % 2) (y % 2)) % 2) 1 ≡ (eqb (x % 2) 1 || eqb (y % 2) 1)
or_digit q x y =
    either (eqb (x % 2) 1)
    (λ p. rw p (eq-eqb ((q * 2 + max (x % 2) (y % 2)) % 2) 1 (omega tests)))
    (λ p. rw (p, digit x p)
    (either (eqb (y % 2) 1)
    (λ s. rw s (eq-eqb ((q * 2 + max 0 (y % 2)) % 2) 1 (omega tests)))
    (λ s. rw (s, digit y s) (ne_eqb ((q * 2 + 0) % 2) 1 (λ e. omega arith)))))

-- a bit of v | w
or_bit : (v w b : ℕ) → bit_of (bit_or v w) b ≡ (bit_of v b || bit_of w b)
unfolding bit_of
or_bit v w b = rw (or_shr v w b, or_step (v / 2 ^ b) (w / 2 ^ b)) (or_digit (bit_or (v / 2 ^ b / 2) (w / 2 ^ b / 2)) (v / 2 ^ b) (w / 2 ^ b))

-- 2 ^ b has bit b alone
one_bit : (b c : ℕ) → bit_of (2 ^ b) c ≡ eqb c b
unfolding bit_of
one_bit b c =
    either (ltb b c)
    (λ p. rw (div-eq_of_lt (pow-lt {i = b} {j = c} (omega tests)), ne_eqb c b (λ e. omega tests)))
    (λ p. either (eqb c b)
    (λ q. rw (q, eqb-true c b q, div_self (pow_pos b)))
    (λ q.
    let d : ℕ = b - c - 1 in
    let e : b ≡ suc d + c = omega (tests, eqb-false c b q) in
    let h : 2 ^ b / 2 ^ c ≡ 2 ^ d * 2 = ap (λ n. 2 ^ n / 2 ^ c) e ∙ ap (λ n. n / 2 ^ c) (pow-add 2 (suc d) c) ∙ shl-shr (2 ^ suc d) c ∙ pow-suc 2 d in
    rw (q, h, mul-mod_left (2 ^ d) 2)))

and_one : (w b : ℕ) → bit_and w (2 ^ b) ≡ (w / 2 ^ b % 2) * 2 ^ b
and_one w b =
    let e : 1 * 2 ^ b + 0 ≡ 2 ^ b = omega arith in
    ap₂ bit_and (sym (split w b)) (sym e)
    ∙ and_block b (w / 2 ^ b) 1 (w % 2 ^ b) 0 (mod-lt w (pow_pos b)) (pow_pos b)
    ∙ ap₂ (λ x y. x * 2 ^ b + y) (and_mask (w / 2 ^ b) 1) (and_zero_r (w % 2 ^ b))
    ∙ add-zero ((w / 2 ^ b % 2) * 2 ^ b)

-- the word with bit b set, as a bitwise or
pub with_or : (w b : ℕ) → with_bit w b ≡ bit_or w (2 ^ b)
unfolding with_bit bit_of
with_or w b =
    either (eqb (w / 2 ^ b % 2) 1)
    (λ p. let a : bit_and w (2 ^ b) ≡ 1 * 2 ^ b = rw (eqb-true (w / 2 ^ b % 2) 1 p) at (and_one w b) in rw p (omega (arith, or_add_and w (2 ^ b))))
    (λ p. let a : bit_and w (2 ^ b) ≡ 0 * 2 ^ b = rw (digit (w / 2 ^ b) p) at (and_one w b) in rw p (omega (arith, or_add_and w (2 ^ b))))

-- the same with the shift of the code
pub with_made : (w b : ℕ) → b < 64 → bit_or w ((1 * 2 ^ b) % 2 ^ 64) ≡ with_bit w b
with_made w b h =
    let e : 1 * 2 ^ b ≡ 2 ^ b = omega arith in
    ap (bit_or w) (shl_exact {a = 1} 1 b 64 (omega arith) (omega arith) ∙ e) ∙ sym (with_or w b)

-- bit b is set and every other bit is as before
pub bit_with : (w b c : ℕ) → bit_of (with_bit w b) c ≡ (eqb c b || bit_of w c)
bit_with w b c = rw (with_or w b, or_bit w (2 ^ b) c, one_bit b c) (or_comm (bit_of w c) (eqb c b))

pub with_fits : (w b : ℕ) → w < 2 ^ 64 → b < 64 → with_bit w b < 2 ^ 64
with_fits w b h l = rw (with_or w b) (or_lt 64 w (2 ^ b) h (pow-lt {i = b} {j = 64} l))

-- ---- how many bits are set

one_more : (x n : ℕ) → ones (x % 2) + n ≡ n + cond (eqb (x % 2) 1) 1 0
unfolding ones ones_in
one_more x n =
    either (eqb (x % 2) 1)
    (λ p. rw (p, eqb-true (x % 2) 1 p) (omega arith))
    (λ p. rw (p, digit x p) (omega arith))

ones_low : (k w : ℕ) → ones (w % 2 ^ k) ≡ count_below k (bit_of w)
unfolding ones ones_in count_below bit_of
ones_low zero w = rw (mod-one w)
ones_low (suc k) w =
    let e : suc k ≡ 1 + k = omega arith in
    ap (λ n. ones (w % 2 ^ n)) e
    ∙ ap ones (mod-pow-add w 1 k)
    ∙ ones_cat k (w / 2 ^ k % 2) (w % 2 ^ k) (mod-lt w (pow_pos k))
    ∙ ap (λ n. ones (w / 2 ^ k % 2) + n) (ones_low k w)
    ∙ one_more (w / 2 ^ k) (count_below k (bit_of w))

pub ones_count : (k w : ℕ) → w < 2 ^ k → ones w ≡ count_below k (bit_of w)
ones_count k w h = ap ones (sym (mod-eq_of_lt h)) ∙ ones_low k w

-- ---- a word is its bits

same_digit : (x y : ℕ) → eqb (x % 2) 1 ≡ eqb (y % 2) 1 → x % 2 ≡ y % 2
same_digit x y e =
    either (eqb (x % 2) 1)
    (λ p. eqb-true (x % 2) 1 p ∙ sym (eqb-true (y % 2) 1 (sym e ∙ p)))
    (λ p. digit x p ∙ sym (digit y (sym e ∙ p)))

extends_low : (k v w : ℕ) → ((b : ℕ) → b < k → bit_of v b ≡ bit_of w b) → v % 2 ^ k ≡ w % 2 ^ k
unfolding bit_of
extends_low zero v w h = mod-one v ∙ sym (mod-one w)
extends_low (suc k) v w h =
    let e : suc k ≡ 1 + k = omega arith in
    let d : v / 2 ^ k % 2 ≡ w / 2 ^ k % 2 = same_digit (v / 2 ^ k) (w / 2 ^ k) (h k (omega arith)) in
    let l : v % 2 ^ k ≡ w % 2 ^ k = extends_low k v w (λ b p. h b (omega arith)) in
    rw e (mod-pow-add v 1 k ∙ ap₂ (λ x y. x * 2 ^ k + y) d l ∙ sym (mod-pow-add w 1 k))

-- ---- sets

-- words of 0 have no members
pub in_none : (n j : ℕ) → in_set (replicate n 0) j ≡ false
unfolding in_set
in_none n j =
    let z : ◌≡◌ {A = ℕ} (get_or (replicate n 0) (j / 64) 0) 0 =
    either (ltb (j / 64) n)
    (λ p. get_or-replicate n (j / 64) 0 0 (omega tests))
    (λ p. get_or-eq_default (replicate n 0) 0 (omega (tests, length-replicate {A = ℕ} n 0))) in
    rw z (bit_zero (j % 64))

same_member : (j k : ℕ) → j / 64 ≡ k / 64 → eqb (j % 64) (k % 64) ≡ eqb j k
same_member j k e =
    either (eqb j k)
    (λ p. rw (p, eqb-true j k p) (eq-eqb (k % 64) (k % 64) refl))
    (λ p. rw p (ne_eqb (j % 64) (k % 64) (λ q. eqb-false j k p (omega arith))))

-- k is a member too, and every other number is one as before
pub in_with : (ws : List ℕ) (k j : ℕ) → k < 64 * length ws → in_set (with_member ws k) j ≡ (eqb j k || in_set ws j)
unfolding in_set with_member
in_with ws k j h =
    either (eqb (j / 64) (k / 64))
    (λ p.
    let e : j / 64 ≡ k / 64 = eqb-true (j / 64) (k / 64) p in
    rw (e, get_or-set_same ws (k / 64) (with_bit (get_or ws (k / 64) 0) (k % 64)) 0 (omega arith), bit_with (get_or ws (k / 64) 0) (k % 64) (j % 64), same_member j k e))
    (λ p.
    rw (get_or-set_other ws (k / 64) (j / 64) (with_bit (get_or ws (k / 64) 0) (k % 64)) 0 (eqb-false (j / 64) (k / 64) p), ne_eqb j k (λ e. eqb-false (j / 64) (k / 64) p (ap (λ n. n / 64) e))))

pub with_length : (ws : List ℕ) (k : ℕ) → length (with_member ws k) ≡ length ws
unfolding with_member
with_length ws k = simp length-set

-- ---- how many members a set has

count_nothing : (f : ℕ → Bool) → 0 ≡ count_below 0 f
unfolding count_below
count_nothing f = refl

-- the members of word i are its bits
in_word : (ws : List ℕ) (i b : ℕ) → b < 64 → in_set ws (64 * i + b) ≡ bit_of (get_or ws i 0) b
unfolding in_set
in_word ws i b h =
    let q : (64 * i + b) / 64 ≡ i = omega arith in
    let r : (64 * i + b) % 64 ≡ b = omega arith in
    rw (q, r)

-- the ones of n words, summed, are the members below 64 n
pub set_count : (ws : List ℕ) (n : ℕ) → sum_below n (λ i. count_below 64 (bit_of (get_or ws i 0))) ≡ count_below (64 * n) (in_set ws)
unfolding sum_below
set_count ws zero = rw mul-zero (count_nothing (in_set ws))
set_count ws (suc n) =
    let e : 64 * suc n ≡ 64 * n + 64 = omega arith in
    rw (e, count_add (64 * n) 64 (in_set ws), set_count ws n, count_same 64 (λ b. in_set ws (64 * n + b)) (bit_of (get_or ws n 0)) (in_word ws n))
