-- Laws of the words of heard senders: a word is the sum of the powers of two of its bits.
use Prim.Native.Nat.{ℕ, zero, suc, ◌+◌, ◌-◌, ◌*◌, ◌/◌, ◌%◌, ◌^◌, ◌<◌}
use native.Mathlib.Nat.{one-le-pow, mod-one, mod-lt, mod-eq_of_lt, div-eq_of_lt, add-div_right, add-mul-div_right}
use native.Mathlib.Omega.{arith}
use mathlib.Core.Path.{◌≡◌, refl, sym, ap, ◌∙◌}
use mathlib.Core.Bool.{Bool, true, false, cond}
use mathlib.Core.List.{List, ◌++◌}
use lib.Dec.{eqb}
use lib.Pow.{pow-add, mod-pow-add}
use borrow.Author.Tests.{eqb-true, eqb-false}
use Rattle.encoding.specs.Below.{sum_below}
use Rattle.encoding.specs.Numbers.{le_bytes}
use Rattle.encoding.proofs.Below.{either, below_suc, sum_same}
use Rattle.bits.specs.Bits.{bit_of}
use Rattle.area.specs.Layout.{word_of, words_of, slots_of}
use Rattle.area_theorems.proofs.Joined.{slots_same}

-- bit b as a number, where h has it
abbrev power : (ℕ → Bool) → ℕ → ℕ
power h b = cond (h b) (2 ^ b) 0

-- n bits make a number below 2 ^ n
bits_below : (h : ℕ → Bool) (n : ℕ) → sum_below n (power h) < 2 ^ n
unfolding sum_below
bits_below h zero = omega arith
bits_below h (suc n) =
    let i = bits_below h n in
    either (h n) (λ t. rw t (omega arith)) (λ t. rw t (omega arith))

power_split : (d c : ℕ) → 2 ^ (suc d + c) ≡ (2 * 2 ^ d) * 2 ^ c
power_split d c = let e : 2 ^ suc d ≡ 2 * 2 ^ d = omega arith in rw (pow-add 2 (suc d) c, e)

-- a higher power of two changes no bit
bit_lower : (v c n : ℕ) → c < n → bit_of (v + 2 ^ n) c ≡ bit_of v c
unfolding bit_of
bit_lower v c n h =
    let d : ℕ = n - c - 1 in
    let e : n ≡ suc d + c = omega arith in
    let p : 2 ^ n ≡ (2 * 2 ^ d) * 2 ^ c = ap (λ (m : ℕ). 2 ^ m) e ∙ power_split d c in
    let z : 0 < 2 ^ c = one-le-pow c 2 (omega arith) in
    let m : (v / 2 ^ c + 2 * 2 ^ d) % 2 ≡ v / 2 ^ c % 2 = omega arith in
    rw (p, add-mul-div_right v (2 * 2 ^ d) z, m)

-- the power itself sets its bit, in a number below it
bit_top : (v n : ℕ) → v < 2 ^ n → bit_of (v + 2 ^ n) n ≡ true
unfolding bit_of
bit_top v n h =
    let z : 0 < 2 ^ n = one-le-pow n 2 (omega arith) in
    rw (add-div_right v z, div-eq_of_lt h)

bit_none : (v n : ℕ) → v < 2 ^ n → bit_of v n ≡ false
unfolding bit_of
bit_none v n h = rw (div-eq_of_lt h)

-- each bit is read back
bits_at : (h : ℕ → Bool) (n c : ℕ) → c < n → bit_of (sum_below n (power h)) c ≡ h c
unfolding sum_below
bits_at h zero c l = absurd (omega arith)
bits_at h (suc n) c l =
    let S : ℕ = sum_below n (power h) in
    below_suc c n l
    (λ a. either (h n)
    (λ t. rw t (bit_lower S c n a ∙ bits_at h n c a))
    (λ t. let e : S + 0 ≡ S = omega arith in rw (t, e) (bits_at h n c a)))
    (λ q. rw q
    (either (h n)
    (λ t. rw t (bit_top S n (bits_below h n)))
    (λ t. let e : S + 0 ≡ S = omega arith in rw (t, e) (bit_none S n (bits_below h n)))))

-- bits make the number again
bits_again : (v n : ℕ) → sum_below n (power (bit_of v)) ≡ v % 2 ^ n
unfolding sum_below bit_of
bits_again v zero = rw (mod-one v)
bits_again v (suc n) =
    let e : suc n ≡ 1 + n = omega arith in
    let m : v % 2 ^ (1 + n) ≡ (v / 2 ^ n % 2) * 2 ^ n + v % 2 ^ n = mod-pow-add v 1 n in
    let i : sum_below n (power (bit_of v)) ≡ v % 2 ^ n = bits_again v n in
    let r : v / 2 ^ n % 2 < 2 = mod-lt (v / 2 ^ n) (omega arith) in
    rw (e, m)
    (either (eqb (v / 2 ^ n % 2) 1)
    (λ t. let o : v / 2 ^ n % 2 ≡ 1 = eqb-true (v / 2 ^ n % 2) 1 t in rw (t, i, o) (omega arith))
    (λ t. let u = eqb-false (v / 2 ^ n % 2) 1 t in let o : v / 2 ^ n % 2 ≡ 0 = omega arith in rw (t, i, o) (omega arith)))

-- ---- the words

module _ (H : ℕ → Bool) where
  pub word_small : (w : ℕ) → word_of H w < 2 ^ 64
  unfolding word_of
  word_small w = bits_below (λ b. H (64 * w + b)) 64

  -- bit b of word w is that of sender 64 w + b
  pub word_bit : (w b : ℕ) → b < 64 → bit_of (word_of H w) b ≡ H (64 * w + b)
  unfolding word_of
  word_bit w b l = bits_at (λ c. H (64 * w + c)) 64 b l

  -- a number of 64 bits is the word of its bits
  pub word_again : (w v : ℕ) → v < 2 ^ 64 → ((b : ℕ) → b < 64 → H (64 * w + b) ≡ bit_of v b) → word_of H w ≡ v
  unfolding word_of
  word_again w v s e =
      sum_same 64 (power (λ b. H (64 * w + b))) (power (bit_of v)) (λ b l. ap (λ (t : Bool). cond t (2 ^ b) 0) (e b l)) ∙ (bits_again v 64 ∙ mod-eq_of_lt s)

  -- the words in a row
  pub words_slots : (n : ℕ) → words_of H n ≡ slots_of (λ w. le_bytes 8 (word_of H w)) n
  unfolding words_of slots_of
  words_slots zero = refl
  words_slots (suc n) = ap (λ (l : List ℕ). l ++ le_bytes 8 (word_of H n)) (words_slots n)

-- a word depends on its 64 senders
pub word_same : (H₁ H₂ : ℕ → Bool) (w : ℕ) → ((b : ℕ) → b < 64 → H₁ (64 * w + b) ≡ H₂ (64 * w + b)) → word_of H₁ w ≡ word_of H₂ w
unfolding word_of
word_same H₁ H₂ w e =
    sum_same 64 (power (λ b. H₁ (64 * w + b))) (power (λ b. H₂ (64 * w + b))) (λ b l. ap (λ (t : Bool). cond t (2 ^ b) 0) (e b l))

-- n words depend on the senders below 64 n
pub words_same : (H₁ H₂ : ℕ → Bool) (n : ℕ) → ((s : ℕ) → s < 64 * n → H₁ s ≡ H₂ s) → words_of H₁ n ≡ words_of H₂ n
words_same H₁ H₂ n e =
    words_slots H₁ n
    ∙ (slots_same (λ w. le_bytes 8 (word_of H₁ w)) (λ w. le_bytes 8 (word_of H₂ w)) n (λ w h. ap (le_bytes 8) (word_same H₁ H₂ w (λ b l. e (64 * w + b) (omega arith))))
    ∙ sym (words_slots H₂ n))
