-- Going through the members of a set, from one to the next.
use Prim.Native.Nat.{ℕ, zero, suc, ◌+◌, ◌-◌, ◌*◌, ◌/◌, ◌%◌, ◌^◌, ◌≤◌, ◌<◌}
use native.Mathlib.Nat.{div-one, lt_of_le_of_lt}
use native.Mathlib.Omega.{arith}
use mathlib.Core.Path.{◌≡◌, sym, ap, ◌∙◌}
use mathlib.Core.Bool.{Bool, true, false}
use mathlib.Core.List.{List}
use lib.Count.{count_trailing_zeros}
use lib.Dec.{eqb, ltb}
use lib.ListN.{length, get_or}
use lib.Pow.{shr_le}
use borrow.Author.Tests.{eqb-true}
use Rattle.encoding.specs.Below.{any_below, least_below}
use Rattle.encoding.proofs.Below.{tests, either, clash, any_none, least_is, least_none, least_at, least_le, least_below_lem}
use Rattle.bits.specs.Bits.{bit_of, in_set, least_from}
use Rattle.bits.proofs.Bits.{bit_zero, bit_shift, bit_past, digit}

-- ---- the least from k on

module _ (n k : ℕ) (f : ℕ → Bool) where
  -- one that passes where all between k and it fail
  pub from_is : (i : ℕ) → k ≤ i → i < n → f i ≡ true → ((j : ℕ) → k ≤ j → j < i → f j ≡ false) → least_from n k f ≡ i
  unfolding least_from
  from_is i l h e none =
      let s : k + (i - k) ≡ i = omega arith in
      let t : least_below (n - k) (λ x. f (k + x)) ≡ i - k =
      least_is (n - k) (λ x. f (k + x)) (i - k) (omega arith) (ap f s ∙ e) (λ j p. none (k + j) (omega arith) (omega arith)) in
      ap (λ x. k + x) t ∙ s

  -- none passes
  pub from_none : ((j : ℕ) → k ≤ j → j < n → f j ≡ false) → least_from n k f ≡ k + (n - k)
  unfolding least_from
  from_none none =
      ap (λ x. k + x) (least_none (n - k) (λ x. f (k + x)) (any_none (n - k) (λ x. f (k + x)) (λ j p. none (k + j) (omega arith) (omega arith))))

  pub from_le : k ≤ least_from n k f
  unfolding least_from
  from_le = omega arith

  -- it is at most n, or k where k is past n
  pub from_most : least_from n k f ≤ k + (n - k)
  unfolding least_from
  from_most = omega (arith, least_le (n - k) (λ x. f (k + x)))

  -- below n it passes
  pub from_at : least_from n k f < n → f (least_from n k f) ≡ true
  unfolding least_from
  from_at h =
      either (any_below (n - k) (λ x. f (k + x)))
      (λ p. least_at (n - k) (λ x. f (k + x)) p)
      (λ p. absurd (omega (arith, least_none (n - k) (λ x. f (k + x)) p)))

  -- all between k and it fail
  pub from_below : (j : ℕ) → k ≤ j → j < least_from n k f → f j ≡ false
  unfolding least_from
  from_below j l h =
      let s : k + (j - k) ≡ j = omega arith in
      ap f (sym s) ∙ least_below_lem (n - k) (λ x. f (k + x)) (j - k) (omega arith)

-- ---- zeros at the low end of a word

even_zeros : (k x : ℕ) → x % 2 ≡ 0 → count_trailing_zeros (suc k) x ≡ suc (count_trailing_zeros k (x / 2))
unfolding count_trailing_zeros
even_zeros k x e = rw e

odd_zeros : (k x : ℕ) → x % 2 ≡ 1 → count_trailing_zeros (suc k) x ≡ 0
unfolding count_trailing_zeros
odd_zeros k x e = rw e

low_bit : (x : ℕ) → bit_of x 0 ≡ eqb (x % 2) 1
unfolding bit_of
low_bit x = rw (div-one x)

high_bit : (x b : ℕ) → bit_of x (suc b) ≡ bit_of (x / 2) b
high_bit x b = let e : 1 + b ≡ suc b = omega arith in sym (bit_shift x 1 b ∙ ap (bit_of x) e)

-- the bits there aren't set
zeros_below : (k x b : ℕ) → b < count_trailing_zeros k x → bit_of x b ≡ false
unfolding count_trailing_zeros
zeros_below zero x b h = absurd (omega arith)
zeros_below (suc k) x zero h = low_bit x ∙ either (eqb (x % 2) 1) (λ p. absurd (omega (arith, odd_zeros k x (eqb-true (x % 2) 1 p)))) (λ p. p)
zeros_below (suc k) x (suc b) h =
    either (eqb (x % 2) 1)
    (λ p. absurd (omega (arith, odd_zeros k x (eqb-true (x % 2) 1 p))))
    (λ p. high_bit x b ∙ zeros_below k (x / 2) b (omega (arith, even_zeros k x (digit x p))))

-- the bit behind them is
zeros_at : (k x : ℕ) → count_trailing_zeros k x < k → bit_of x (count_trailing_zeros k x) ≡ true
unfolding count_trailing_zeros
zeros_at zero x h = absurd (omega arith)
zeros_at (suc k) x h =
    either (eqb (x % 2) 1)
    (λ p. ap (bit_of x) (odd_zeros k x (eqb-true (x % 2) 1 p)) ∙ low_bit x ∙ p)
    (λ p.
    let e : count_trailing_zeros (suc k) x ≡ suc (count_trailing_zeros k (x / 2)) = even_zeros k x (digit x p) in
    ap (bit_of x) e ∙ high_bit x (count_trailing_zeros k (x / 2)) ∙ zeros_at k (x / 2) (omega arith))

-- a word that isn't 0 has such a bit
zeros_some : (k x : ℕ) → 0 < x → x < 2 ^ k → count_trailing_zeros k x < k
unfolding count_trailing_zeros
zeros_some zero x p h = absurd (omega arith)
zeros_some (suc k) x p h =
    either (eqb (x % 2) 1)
    (λ q. omega (arith, odd_zeros k x (eqb-true (x % 2) 1 q)))
    (λ q. omega (arith, digit x q, even_zeros k x (digit x q), zeros_some k (x / 2) (omega (arith, digit x q)) (omega arith)))

-- ---- the scan of a set, one word a turn

-- no member between k and i
abbrev pub None : List ℕ → ℕ → ℕ → Type 0
None ws k i = (j : ℕ) → k ≤ j → j < i → in_set ws j ≡ false

module _ (ws : List ℕ) (i : ℕ) where
  -- the rest of a word, shifted to its low end
  shifted : (j : ℕ) → i ≤ j → j < 64 * (i / 64 + 1) → in_set ws j ≡ bit_of (get_or ws (i / 64) 0 / 2 ^ (i % 64)) (j - i)
  unfolding in_set
  shifted j l h =
      let q : j / 64 ≡ i / 64 = omega arith in
      let r : j % 64 ≡ i % 64 + (j - i) = omega arith in
      rw (q, r) (sym (bit_shift (get_or ws (i / 64) 0) (i % 64) (j - i)))

  module _ {rest : ℕ} (k : ℕ) (none : None ws k i) (is : rest ≡ get_or ws (i / 64) 0 / 2 ^ (i % 64)) where
    -- the rest of the word has no bit
    pub word_clear : rest ≡ 0 → None ws k (64 * (i / 64 + 1))
    word_clear z j l h =
        either (ltb j i)
        (λ p. none j l (omega tests))
        (λ p. shifted j (omega tests) h ∙ ap (λ x. bit_of x (j - i)) (sym is ∙ z) ∙ bit_zero (j - i))

    module _ (fits : get_or ws (i / 64) 0 < 2 ^ 64) (some : rest ≡ 0 → ⊥) where
      rest-fits : rest < 2 ^ 64
      rest-fits = rw is (lt_of_le_of_lt (shr_le (get_or ws (i / 64) 0) (i % 64)) fits)

      rest_at : bit_of rest (count_trailing_zeros 64 rest) ≡ true
      rest_at = zeros_at 64 rest (zeros_some 64 rest (omega arith) rest-fits)

      -- the bit found is one of the word
      pub member_near : i % 64 + count_trailing_zeros 64 rest < 64
      member_near =
          either (ltb (i % 64 + count_trailing_zeros 64 rest) 64) (λ p. omega tests)
          (λ p.
          let e : bit_of rest (count_trailing_zeros 64 rest) ≡ bit_of (get_or ws (i / 64) 0) (i % 64 + count_trailing_zeros 64 rest) =
          ap (λ x. bit_of x (count_trailing_zeros 64 rest)) is ∙ bit_shift (get_or ws (i / 64) 0) (i % 64) (count_trailing_zeros 64 rest) in
          clash rest_at (e ∙ bit_past (get_or ws (i / 64) 0) 64 (i % 64 + count_trailing_zeros 64 rest) fits (omega tests)))

      pub member_found : k ≤ i → i < 64 * length ws → i + count_trailing_zeros 64 rest ≡ least_from (64 * length ws) k (in_set ws)
      member_found l h =
          let t : ℕ = count_trailing_zeros 64 rest in
          let s : i + t - i ≡ t = omega arith in
          sym (from_is (64 * length ws) k (in_set ws) (i + t) (omega arith) (omega (arith, member_near))
          (shifted (i + t) (omega arith) (omega (arith, member_near)) ∙ ap (bit_of (get_or ws (i / 64) 0 / 2 ^ (i % 64))) s ∙ ap (λ x. bit_of x t) (sym is) ∙ rest_at)
          (λ j p q. either (ltb j i)
          (λ b. none j p (omega tests))
          (λ b. shifted j (omega tests) (omega (arith, member_near)) ∙ ap (λ x. bit_of x (j - i)) (sym is) ∙ zeros_below 64 rest (j - i) (omega tests))))

  -- none is left
  pub member_none : (k : ℕ) → None ws k i → k ≤ i → i ≤ k + (64 * length ws - k) → 64 * length ws ≤ i → i ≡ least_from (64 * length ws) k (in_set ws)
  member_none k none l m h =
      let e : i ≡ k + (64 * length ws - k) = omega arith in
      e ∙ sym (from_none (64 * length ws) k (in_set ws) (λ j p q. none j p (omega arith)))

-- the same for a whole word
module _ (ws : List ℕ) (w : ℕ) {word : ℕ} (k : ℕ) (none : None ws k (64 * w)) (is : word ≡ get_or ws w 0) where
  at-word : 64 * w / 64 ≡ w
  at-word = omega arith

  whole : word ≡ get_or ws (64 * w / 64) 0 / 2 ^ (64 * w % 64)
  whole =
      let b : 64 * w % 64 ≡ 0 = omega arith in
      is ∙ rw (at-word, b) (sym (div-one (get_or ws w 0)))

  pub whole_clear : word ≡ 0 → None ws k (64 * (w + 1))
  whole_clear z = rw at-word at (word_clear ws (64 * w) k none whole z)

  module _ (fits : get_or ws w 0 < 2 ^ 64) (some : word ≡ 0 → ⊥) where
    word_fits : get_or ws (64 * w / 64) 0 < 2 ^ 64
    word_fits = rw at-word fits

    pub whole_near : count_trailing_zeros 64 word < 64
    whole_near = omega (arith, member_near ws (64 * w) k none whole word_fits some)

    pub whole_found : k ≤ 64 * w → w < length ws → 64 * w + count_trailing_zeros 64 word ≡ least_from (64 * length ws) k (in_set ws)
    whole_found l h = member_found ws (64 * w) k none whole word_fits some l (omega arith)
