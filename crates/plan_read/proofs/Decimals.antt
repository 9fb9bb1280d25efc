-- Laws of decimal text, once for every width.
use Prim.Native.Nat.{ℕ, zero, suc, ◌+◌, ◌-◌, ◌*◌, ◌/◌, ◌%◌, ◌^◌, ◌≤◌, ◌<◌}
use mathlib.Core.Path.{◌≡◌, refl, sym, ap, ◌∙◌}
use mathlib.Core.Bool.{true, false}
use mathlib.Core.List.{List, [], ◌∷◌, ◌++◌}
use native.Mathlib.Nat.{mul_assoc, pow-succ', pow-le-pow_right}
use native.Mathlib.Omega.{arith}
use lib.Dec.{leb, ltb, eqb}
use lib.ListN.{length, get_or, take, length-append, get_or-append}
use lib.Seq.{get_or_at, get_or-take, take-suc, take_all, length-take-le}
use borrow.Author.Tests.{leb-true, le-leb, lt-ltb, le-ltb, ne_eqb, eqb-false}
use Rattle.encoding.proofs.Below.{tests, either, and_fst, and_snd, and_intro, below_suc}
use Rattle.plan_read.specs.Text.{digits_of, decimal, number_limit}
use Rattle.plan_read.specs.Means.{is_digit, value_of}

-- every element is a digit
abbrev pub Digits : List ℕ → Type 0
Digits ds = (i : ℕ) → i < length ds → is_digit (get_or ds i 0) ≡ true

-- ---- digits

pub digit_range : (b : ℕ) → is_digit b ≡ true → (48 ≤ b) × (b ≤ 57)
unfolding is_digit
digit_range b e = (leb-true 48 b (and_fst _ _ e), leb-true b 57 (and_snd (leb 48 b) _ e))

pub digit_is : (b : ℕ) → 48 ≤ b → b ≤ 57 → is_digit b ≡ true
unfolding is_digit
digit_is b l h = and_intro _ _ (le-leb 48 b l) (le-leb b 57 h)

-- a digit behind digits
pub digits_snoc : (ds : List ℕ) (b : ℕ) → Digits ds → is_digit b ≡ true → Digits (ds ++ (b ∷ []))
digits_snoc ds b h e i l =
    below_suc i (length ds) (omega (arith, length-append ds (b ∷ [])))
    (λ p. rw (get_or-append ds (b ∷ []) 0 i p) (h i p))
    (λ q. rw (q, get_or_at ds b [] 0 (length ds) refl) e)

-- ---- the text of a number

pub digits_most : (w n : ℕ) → length (digits_of w n) ≤ w
unfolding digits_of
digits_most zero n = omega arith
digits_most (suc w) n = either (ltb n 10) (λ p. rw p (omega arith)) (λ p. rw (p, length-append) (omega (arith, digits_most w (n / 10))))

pub digits_least : (w n : ℕ) → 1 ≤ length (digits_of (suc w) n)
unfolding digits_of
digits_least w n = either (ltb n 10) (λ p. rw p (omega arith)) (λ p. rw (p, length-append) (omega arith))

pub digits_digit : (w n : ℕ) → Digits (digits_of w n)
unfolding digits_of
digits_digit zero n = λ i h. absurd (omega arith)
digits_digit (suc w) n =
    either (ltb n 10)
    (λ p. rw p (digits_snoc [] (48 + n) (λ i h. absurd (omega arith)) (digit_is (48 + n) (omega arith) (omega tests))))
    (λ p. rw p (digits_snoc (digits_of w (n / 10)) (48 + n % 10) (digits_digit w (n / 10)) (digit_is (48 + n % 10) (omega arith) (omega arith))))

-- a number that isn't 0 has no 0 in front
pub digits_first : (w n : ℕ) → 0 < n → n < 10 ^ w → eqb (get_or (digits_of w n) 0 0) 48 ≡ false
unfolding digits_of
digits_first zero n h l = absurd (omega arith)
digits_first (suc w) n h l =
    either (ltb n 10)
    (λ p. rw p (ne_eqb (48 + n) 48 (λ e. omega arith)))
    (λ p. let k : n / 10 < 10 ^ w = omega arith in let z : 0 < n / 10 = omega tests in rw (p, get_or-append (digits_of w (n / 10)) ((48 + n % 10) ∷ []) 0 0 (some w (n / 10) z k)) (digits_first w (n / 10) z k))
  where
    some : (w n : ℕ) → 0 < n → n < 10 ^ w → 0 < length (digits_of w n)
    some zero n h l = absurd (omega arith)
    some (suc w) n h l = digits_least w n

-- ---- the value of digits

pub value_append : (v : ℕ) (a b : List ℕ) → value_of v (a ++ b) ≡ value_of (value_of v a) b
unfolding value_of
value_append v [] b = refl
value_append v (d ∷ a) b = value_append (10 * v + (d - 48)) a b

-- one more digit
pub value_snoc : (v : ℕ) (ds : List ℕ) (d : ℕ) → value_of v (ds ++ (d ∷ [])) ≡ 10 * value_of v ds + (d - 48)
unfolding value_of
value_snoc v ds d = value_append v ds (d ∷ [])

-- the text of a number stands for it
pub value_digits : (w n : ℕ) → n < 10 ^ w → value_of 0 (digits_of w n) ≡ n
unfolding digits_of value_of
value_digits zero n h = omega arith
value_digits (suc w) n h =
    either (ltb n 10)
    (λ p. rw p (omega arith))
    (λ p. rw (p, value_snoc 0 (digits_of w (n / 10)) (48 + n % 10), value_digits w (n / 10) (omega arith)) (omega arith))

-- digits behind a number make it no less
pub value_least : (v : ℕ) (ds : List ℕ) → v ≤ value_of v ds
unfolding value_of
value_least v [] = omega arith
value_least v (d ∷ ds) = omega (arith, value_least (10 * v + (d - 48)) ds)

-- n digits behind a number below k give one below k * 10 ^ n
pub value_bound : (v k : ℕ) (ds : List ℕ) → v < k → Digits ds → value_of v ds < k * 10 ^ length ds
unfolding value_of
value_bound v k [] l h = omega arith
value_bound v k (d ∷ ds) l h =
    let r : (48 ≤ d) × (d ≤ 57) = digit_range d (h 0 (omega arith)) in
    rw (pow-succ' 10 (length ds), ← mul_assoc k 10 (10 ^ length ds))
    (value_bound (10 * v + (d - 48)) (k * 10) ds (omega arith) (λ i m. h (suc i) (omega arith)))

-- ---- digits with no 0 in front

-- the first digit isn't 0, or is the only one
abbrev pub Plain : List ℕ → Type 0
Plain ds = (2 ≤ length ds) → eqb (get_or ds 0 0) 48 ≡ false

-- a first digit that isn't 0 gives a number that isn't 0
value_positive : (ds : List ℕ) → Digits ds → 1 ≤ length ds → eqb (get_or ds 0 0) 48 ≡ false → 0 < value_of 0 ds
unfolding value_of
value_positive [] h l e = absurd (omega arith)
value_positive (d ∷ ds) h l e =
    let r : (48 ≤ d) × (d ≤ 57) = digit_range d (h 0 (omega arith)) in
    let n : d ≡ 48 → ⊥ = eqb-false d 48 e in
    omega (arith, value_least (10 * 0 + (d - 48)) ds)

-- they are the text of the number that they stand for
pub digits_value_lem : (w : ℕ) (ds : List ℕ) → Digits ds → 1 ≤ length ds → length ds ≤ w → Plain ds → digits_of w (value_of 0 ds) ≡ ds
unfolding digits_of value_of
digits_value_lem zero ds h l m e = absurd (omega arith)
digits_value_lem (suc w) [] h l m e = absurd (omega arith)
digits_value_lem (suc w) (d ∷ []) h l m e =
    let r : (48 ≤ d) × (d ≤ 57) = digit_range d (h 0 (omega arith)) in
    let v : 48 + (10 * 0 + (d - 48)) ≡ d = omega arith in
    rw (lt-ltb (10 * 0 + (d - 48)) 10 (omega arith), v)
digits_value_lem (suc w) (d ∷ d2 ∷ ds) h l m e =
    let n : ℕ = suc (length ds) in
    let init : List ℕ = take n (d ∷ d2 ∷ ds) in
    let last : ℕ = get_or (d ∷ d2 ∷ ds) n 0 in
    let s : d ∷ d2 ∷ ds ≡ init ++ (last ∷ []) = sym (take_all (suc n) (d ∷ d2 ∷ ds) (omega arith)) ∙ take-suc (d ∷ d2 ∷ ds) n 0 (omega arith) in
    let k : length init ≡ n = length-take-le n (d ∷ d2 ∷ ds) (omega arith) in
    let g : Digits init = λ i q. rw (get_or-take n (d ∷ d2 ∷ ds) i 0 (omega arith)) (h i (omega arith)) in
    let r : (48 ≤ last) × (last ≤ 57) = digit_range last (h n (omega arith)) in
    let v : value_of 0 (d ∷ d2 ∷ ds) ≡ 10 * value_of 0 init + (last - 48) = ap (value_of 0) s ∙ value_snoc 0 init last in
    let p : 0 < value_of 0 init = value_positive init g (omega arith) (e (omega arith)) in
    let q : (10 * value_of 0 init + (last - 48)) / 10 ≡ value_of 0 init = omega arith in
    let b : 48 + (10 * value_of 0 init + (last - 48)) % 10 ≡ last = omega arith in
    ap (digits_of (suc w)) v
    ∙ (rw (le-ltb (10 * value_of 0 init + (last - 48)) 10 (omega arith), q, b, digits_value_lem w init g (omega arith) (omega arith) (λ x. e (omega arith)))
    (sym s))

-- ---- numbers of at most 8 digits

pub decimal_digit : (n : ℕ) → Digits (decimal n)
unfolding decimal
decimal_digit n = digits_digit 8 n

pub decimal_least : (n : ℕ) → 1 ≤ length (decimal n)
unfolding decimal
decimal_least n = digits_least 7 n

pub decimal_most : (n : ℕ) → length (decimal n) ≤ 8
unfolding decimal
decimal_most n = digits_most 8 n

pub decimal_plain : (n : ℕ) → n < number_limit → Plain (decimal n)
unfolding decimal digits_of
decimal_plain zero l = λ m. absurd (omega arith)
decimal_plain (suc n) l = λ m. digits_first 8 (suc n) (omega arith) l

pub decimal_value : (n : ℕ) → n < number_limit → value_of 0 (decimal n) ≡ n
unfolding decimal
decimal_value n l = value_digits 8 n l

module _ (ds : List ℕ) (h : Digits ds) (m : length ds ≤ 8) where
  pub decimal_limit : value_of 0 ds < number_limit
  decimal_limit = omega (arith, value_bound 0 1 ds (omega arith) h, pow-le-pow_right {n = 10} (omega arith) m)

  pub decimal_of : 1 ≤ length ds → Plain ds → decimal (value_of 0 ds) ≡ ds
  unfolding decimal
  decimal_of l e = digits_value_lem 8 ds h l m e
