-- Numbers of 1 to 8 digits.
use Prim.Native.Nat.{ℕ, zero, suc, ◌+◌, ◌-◌, ◌*◌, ◌^◌, ◌≤◌, ◌<◌}
use mathlib.Core.Path.{◌≡◌, refl}
use mathlib.Core.Bool.{true, false, not, ◌&&◌}
use mathlib.Core.List.{List}
use native.Mathlib.Nat.{pow-succ', pow-le-pow_right}
use native.Mathlib.Numerals.{add-one}
use native.Mathlib.Omega.{arith}
use lib.Dec.{leb}
use lib.ListN.{length, get_or}
use borrow.Author.Tests.{leb-true}
use Rattle.encoding.specs.Below.{all_below}
use Rattle.encoding.proofs.Below.{and_fst, and_snd, all_more, all_fails, all_to}
use Rattle.std.specs.Prelude.{None, Some}
use Rattle.ele_text.specs.Text.{is_digit, digits_value, is_number, field_number}
use Rattle.ele_text.specs.Means.{numeral_of}

pub digit_range : (b : ℕ) → is_digit b ≡ true → (48 ≤ b) × (b ≤ 57)
unfolding is_digit
digit_range b e = (leb-true 48 b (and_fst _ _ e), leb-true b 57 (and_snd (leb 48 b) _ e))

-- the first n bytes are digits
abbrev pub Digits : ℕ → List ℕ → Type 0
Digits n s = all_below n (λ i. is_digit (get_or s i 0)) ≡ true

digits_bound : (n : ℕ) (s : List ℕ) → Digits n s → digits_value n s < 10 ^ n
unfolding digits_value all_below
digits_bound zero s h = omega arith
digits_bound (suc n) s h =
    let r : (48 ≤ get_or s n 0) × (get_or s n 0 ≤ 57) = digit_range (get_or s n 0) (and_snd (all_below n (λ i. is_digit (get_or s i 0))) _ h) in
    rw (pow-succ' 10 n) (omega (arith, digits_bound n s (and_fst _ _ h)))

module _ (s : List ℕ) where
  -- so far i digits, which stand for v
  abbrev pub Reading : ℕ → ℕ → Type 0
  Reading i v = (i ≤ length s) × (Digits i s × (v ≡ digits_value i s))

  pub reading_none : Reading 0 0
  unfolding all_below digits_value
  reading_none = (omega arith, (refl, refl))

  pub reading_small : (i v : ℕ) → Reading i v → i ≤ 7 → v < 10000000
  reading_small i v h l = omega (arith, digits_bound i s h.1.0, pow-le-pow_right {n = 10} (omega arith) l)

  abbrev pub Sized : Type 0
  Sized = (leb 1 (length s) && leb (length s) 8) ≡ true

  pub sized_most : Sized → length s ≤ 8
  sized_most h = leb-true (length s) 8 (and_snd (leb 1 (length s)) _ h)

  pub reading_more : (i v w : ℕ) → Reading i v → i < length s → w ≡ get_or s i 0 → is_digit w ≡ true → Reading (i + 1) (10 * v + (w - 48))
  unfolding digits_value
  reading_more i v w h l e d =
      let a : i + 1 ≡ suc i = add-one i in
      let z : is_digit (get_or s i 0) ≡ true = rw (← e) d in
      (omega arith, (all_more i (λ i. is_digit (get_or s i 0)) h.1.0 z, rw (a, h.1.1, e)))

  -- no number: too short or too long
  pub number_long : (leb 1 (length s) && leb (length s) 8) ≡ false → None ≡ numeral_of s
  unfolding numeral_of is_number
  number_long h = rw h

  -- a byte that is no digit
  pub number_broken : (i : ℕ) → i < length s → is_digit (get_or s i 0) ≡ false → None ≡ numeral_of s
  unfolding numeral_of is_number
  number_broken i l e = rw (all_fails (length s) (λ i. is_digit (get_or s i 0)) i l e, and_false (leb 1 (length s) && leb (length s) 8))
    where
      and_false : (b : mathlib.Core.Bool.Bool) → (b && false) ≡ false
      and_false true = refl
      and_false false = refl

  pub number_done : (i v : ℕ) → Sized → Reading i v → length s ≤ i → Some v ≡ numeral_of s
  unfolding numeral_of is_number field_number
  number_done i v z h l =
      let q : i ≡ length s = omega arith in
      let d : all_below (length s) (λ i. is_digit (get_or s i 0)) ≡ true = all_to (length s) (λ i. is_digit (get_or s i 0)) i h.0 l h.1.0 in
      rw (z, d, h.1.1, q)
