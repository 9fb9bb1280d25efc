-- The bits of two numbers, as integers with a sign, are in the order of the floats, in either format; and so are single integers for binary32.
use Prim.Native.Nat.{ℕ, zero, suc, ◌+◌, ◌-◌, ◌*◌, ◌/◌, ◌%◌, ◌^◌, ◌≤◌, ◌<◌}
use native.Mathlib.Nat.{mul_assoc, mul_right_comm, suc-mul, add-mul, le_refl, mul-le-mul, zero-div, zero-mod, mul-pos, mul-le-mul_right, mul-lt-mul_of_pos_right, lt_of_mul-lt-mul_right, mod-lt, div-add-mod', mul-div_cancel, mod-mod_of_dvd, dvd-mul_right}
use native.Mathlib.Omega.{arith}
use mathlib.Core.Path.{◌≡◌, refl, sym, ap, ◌∙◌}
use mathlib.Core.Bool.{Bool, true, false, cond, not, ◌&&◌}
use lib.Dec.{T, ltb, leb, eqb}
use lib.Pow.{pow-add, pow_pos, pow_mono}
use lib.Ieee.{Float, nan, inf, fin, Format, binary32, binary64, prec, low, up, down, hid, ones, top, below, lt, is_nan, fits, of_fields, of_bits, to_bits}
use lib.Ieee.Bits.{nan_bits_is, nan_bits_above, of_bits-to_bits}
use lib.Ieee.Exact.{HasValue, odd_sign}
use lib.Ieee.Fits.{down_pos}
use borrow.Author.Tests.{ltb-true, ltb-false, eqb-true, lt-ltb, le-ltb, eq-eqb}
use Rattle.encoding.proofs.Below.{tests, either, clash, iff_eq}
use Rattle.probes.specs.Means.{order_of}

-- ---- numbers with a sign, in order

ltb_iff : (x y a b : ℕ) → (x < y → a < b) → (a < b → x < y) → ltb x y ≡ ltb a b
ltb_iff x y a b f g = iff_eq (ltb x y) (ltb a b) (λ e. lt-ltb a b (f (ltb-true x y e))) (λ e. lt-ltb x y (g (ltb-true a b e)))

-- a map that keeps the order of two numbers, and of each and 0, keeps it with their signs
below_same : (s t : Bool) (x y a b : ℕ) → ltb x y ≡ ltb a b → ltb y x ≡ ltb b a → ltb 0 x ≡ ltb 0 a → ltb 0 y ≡ ltb 0 b → below s x t y ≡ below s a t b
below_same false false x y a b p q u v = p
below_same false true x y a b p q u v = refl
below_same true false x y a b p q u v = ltb_iff 0 (x + y) 0 (a + b) (one x y a b u v) (one a b x y (sym u) (sym v))
  where
    one : (x y a b : ℕ) → ltb 0 x ≡ ltb 0 a → ltb 0 y ≡ ltb 0 b → 0 < x + y → 0 < a + b
    one x y a b u v h =
        either (ltb 0 x)
        (λ e. let k : 0 < a = ltb-true 0 a (sym u ∙ e) in omega arith)
        (λ e. let k : 0 < b = ltb-true 0 b (sym v ∙ lt-ltb 0 y (omega tests)) in omega arith)
below_same true true x y a b p q u v = q

-- x / d and y / d are a / c and b / c
scaled : (x y a b c d : ℕ) → 0 < c → x * c ≡ a * d → y * c ≡ b * d → x < y → a < b
scaled x y a b c d C p q h =
    let w : x * c < y * c = mul-lt-mul_of_pos_right h C in
    lt_of_mul-lt-mul_right d (rw (p, q) at w)

ltb_scaled : (x y a b c d : ℕ) → 0 < c → 0 < d → x * c ≡ a * d → y * c ≡ b * d → ltb x y ≡ ltb a b
ltb_scaled x y a b c d C D p q =
    ltb_iff x y a b (scaled x y a b c d C p q) (scaled a b x y d c D (sym p) (sym q))

-- two floats with a value each, over the same denominator
lt_values : (x y : Float) (s t : Bool) (a b c : ℕ) → 0 < c → HasValue x s a c → HasValue y t b c → lt x y ≡ below s a t b
unfolding lt
lt_values nan y s t a b c C p q = absurd p
lt_values (inf u) y s t a b c C p q = absurd p
lt_values (fin u m e) nan s t a b c C p q = absurd q
lt_values (fin u m e) (inf v) s t a b c C p q = absurd q
lt_values (fin u m e) (fin v n d) s t a b c C p q =
    let k = down e * down d in
    let x = m * up e * down d in
    let y = n * up d * down e in
    let K : 0 < k = mul-pos (down_pos e) (down_pos d) in
    let i : x * c ≡ a * k = mul_right_comm (m * up e) (down d) c ∙ ap (λ (z : ℕ). z * down d) p.1 ∙ mul_assoc a (down e) (down d) in
    let j : y * c ≡ b * k = mul_right_comm (n * up d) (down e) c ∙ ap (λ (z : ℕ). z * down e) q.1 ∙ mul_right_comm b (down d) (down e) ∙ mul_assoc b (down e) (down d) in
    let o : 0 * c ≡ 0 * k = omega arith in
    rw (p.0, q.0)
    (below_same s t x y a b (ltb_scaled x y a b c k C K i j) (ltb_scaled y x b a c k C K j i) (ltb_scaled 0 x 0 a c k C K o i) (ltb_scaled 0 y 0 b c k C K o j))

-- ---- how large a number is, in units of the format's smallest, by the exponent's field and the digits, of which there are h

abbrev size : ℕ → ℕ → ℕ → ℕ
size h zero t = t * 1
size h (suc x) t = (h + t) * 2 ^ x

-- a larger field outweighs the digits
field_grows : (h x t y u : ℕ) → t < h → x < y → size h x t < size h y u
field_grows h x t zero u p q = absurd (omega arith)
field_grows h zero t (suc y) u p q =
    let k : (h + u) * 1 ≤ (h + u) * 2 ^ y = mul-le-mul (le_refl (h + u)) (pow_pos y) in
    omega arith
field_grows h (suc x) t (suc y) u p q =
    let a : (h + t) * 2 ^ x < (h + h) * 2 ^ x = mul-lt-mul_of_pos_right (omega arith) (pow_pos x) in
    let b : h * 2 ^ (x + 1) ≤ h * 2 ^ y = mul-le-mul (le_refl h) (pow_mono (omega arith)) in
    let c : h * 2 ^ y ≤ (h + u) * 2 ^ y = mul-le-mul_right (2 ^ y) (omega arith) in
    let d : (h + h) * 2 ^ x ≡ h * 2 ^ (x + 1) = rw (pow-add 2 x 1, add-mul) (omega arith) in
    omega arith

digits_grow : (h x t u : ℕ) → t < u → size h x t < size h x u
digits_grow h zero t u p = omega arith
digits_grow h (suc x) t u p = mul-lt-mul_of_pos_right (omega arith) (pow_pos x)

size_grows : (h x t y u : ℕ) → t < h → u < h → x * h + t < y * h + u → size h x t < size h y u
size_grows h x t y u p q r =
    either (ltb x y)
    (λ e. field_grows h x t y u p (ltb-true x y e))
    (λ e.
    either (ltb y x)
    (λ g.
    let k : suc y * h ≤ x * h = mul-le-mul_right h (ltb-true y x g) in
    absurd (omega (arith, suc-mul y h)))
    (λ g.
    let i : x ≡ y = omega tests in
    rw i (digits_grow h y t u (omega (arith, ap (λ (z : ℕ). z * h) i)))))

-- the size of the number whose bits without their sign are m
abbrev size_at : ℕ → ℕ → ℕ
size_at h m = size h (m / h) (m % h)

module _ (h : ℕ) (H : 0 < h) where
  at-grows : (m n : ℕ) → m < n → size_at h m < size_at h n
  at-grows m n l = size_grows h (m / h) (m % h) (n / h) (n % h) (mod-lt m H) (mod-lt n H) (rw (div-add-mod' m h, div-add-mod' n h) l)

  at-order : (m n : ℕ) → ltb (size_at h m) (size_at h n) ≡ ltb m n
  at-order m n =
      either (ltb m n)
      (λ e. lt-ltb (size_at h m) (size_at h n) (at-grows m n (ltb-true m n e)) ∙ sym e)
      (λ e.
      either (ltb n m)
      (λ g. le-ltb (size_at h m) (size_at h n) (omega (arith, at-grows n m (ltb-true n m g))) ∙ sym e)
      (λ g. let i : m ≡ n = omega tests in rw i (le-ltb (size_at h n) (size_at h n) (omega arith) ∙ sym (le-ltb n n (omega arith)))))

  at_zero : size_at h 0 ≡ 0
  at_zero = rw (zero-div h, zero-mod h)

  sizes-order : (s t : Bool) (m n : ℕ) → below s (size_at h m) t (size_at h n) ≡ below s m t n
  sizes-order s t m n =
      below_same s t (size_at h m) (size_at h n) m n (at-order m n) (at-order n m) (rw at_zero at (at-order 0 m)) (rw at_zero at (at-order 0 n))

-- ---- the bits of a number: of a finite one, or of an infinity

-- the digits below the exponent's field
digits_are : (f : Format) (b : ℕ) → b % hid f ≡ b % top f % hid f
digits_are f b = sym (mod-mod_of_dvd (hid f) b (dvd-mul_right (hid f) (suc (ones f))))

field_value : (f : Format) (s : Bool) (x t : ℕ) → eqb x (ones f) ≡ false → HasValue (of_fields f s x t) s (size (hid f) x t) (2 ^ low f)
unfolding of_fields
field_value f s zero t e = odd_sign (prec f) s t 0 (low f)
field_value f s (suc x) t e = rw e (odd_sign (prec f) s (hid f + t) x (low f))

field_inf : (f : Format) (s : Bool) → of_fields f s (ones f) 0 ≡ inf s
unfolding of_fields
field_inf binary32 s = refl
field_inf binary64 s = refl

data Kind (f : Format) (b : ℕ) : Type 0 where
  finite : HasValue (of_bits f b) (leb (top f) b) (size_at (hid f) (b % top f)) (2 ^ low f) → b % top f < ones f * hid f → Kind f b
  infinite : of_bits f b ≡ inf (leb (top f) b) → b % top f ≡ ones f * hid f → Kind f b

not_above : (f : Format) (b : ℕ) → is_nan (of_bits f b) ≡ false → b % top f ≤ ones f * hid f
not_above f b e = ltb-false (ones f * hid f) (b % top f) (sym (nan_bits_above f b) ∙ nan_bits_is f b ∙ e)

kind_of_lem : (f : Format) (b : ℕ) → is_nan (of_bits f b) ≡ false → Kind f b
unfolding of_bits
kind_of_lem f b e =
    let m = b % top f in
    let l = not_above f b e in
    either (eqb (m / hid f) (ones f))
    (λ i.
    let x : m / hid f ≡ ones f = eqb-true (m / hid f) (ones f) i in
    let d = div-add-mod' m (hid f) in
    let t : m % hid f ≡ 0 = omega (arith, ap (λ (z : ℕ). z * hid f) x) in
    infinite (rw (digits_are f b, x, t) (field_inf f (leb (top f) b))) (omega (arith, ap (λ (z : ℕ). z * hid f) x)))
    (λ i.
    finite (rw (digits_are f b) (field_value f (leb (top f) b) (m / hid f) (m % hid f) i))
    (either (ltb m (ones f * hid f))
    (λ g. ltb-true m (ones f * hid f) g)
    (λ g.
    let k : m ≡ ones f * hid f = omega (tests, l) in
    clash (eq-eqb (m / hid f) (ones f) (ap (λ (z : ℕ). z / hid f) k ∙ mul-div_cancel (ones f) (pow_pos (prec f - 1)))) i)))

-- an infinity is above all other numbers in size
inf_left : (s t : Bool) (m n : ℕ) → n < m → s ≡ below s m t n
inf_left false false m n h = sym (le-ltb m n (omega arith))
inf_left false true m n h = refl
inf_left true false m n h = sym (lt-ltb 0 (m + n) (omega arith))
inf_left true true m n h = sym (lt-ltb n m h)

inf_right : (s t : Bool) (m n : ℕ) → m < n → not t ≡ below s m t n
inf_right false false m n h = sym (lt-ltb m n h)
inf_right false true m n h = refl
inf_right true false m n h = sym (lt-ltb 0 (m + n) (omega arith))
inf_right true true m n h = sym (le-ltb n m (omega arith))

inf_both : (s t : Bool) (m n : ℕ) → 0 < m → m ≡ n → (s && not t) ≡ below s m t n
inf_both false false m n h e = sym (le-ltb m n (omega arith))
inf_both false true m n h e = refl
inf_both true false m n h e = sym (lt-ltb 0 (m + n) (omega arith))
inf_both true true m n h e = sym (le-ltb n m (omega arith))

lt_inf_left : (s : Bool) (y : Float) (t : Bool) (b c : ℕ) → HasValue y t b c → lt (inf s) y ≡ s
unfolding lt
lt_inf_left s nan t b c v = absurd v
lt_inf_left s (inf u) t b c v = absurd v
lt_inf_left s (fin u m e) t b c v = refl

lt_inf_right : (x : Float) (s t : Bool) (a c : ℕ) → HasValue x s a c → lt x (inf t) ≡ not t
unfolding lt
lt_inf_right nan s t a c v = absurd v
lt_inf_right (inf u) s t a c v = absurd v
lt_inf_right (fin u m e) s t a c v = refl

lt_inf_both : (s t : Bool) → lt (inf s) (inf t) ≡ (s && not t)
unfolding lt
lt_inf_both s t = refl

-- of two numbers the order is that of their bits: the sign, and the rest as an integer
pub bits_order : (f : Format) (a b : ℕ) → is_nan (of_bits f a) ≡ false → is_nan (of_bits f b) ≡ false
    → lt (of_bits f a) (of_bits f b) ≡ below (leb (top f) a) (a % top f) (leb (top f) b) (b % top f)
bits_order f a b p q = go (kind_of_lem f a p) (kind_of_lem f b q)
  where
    go : Kind f a → Kind f b → lt (of_bits f a) (of_bits f b) ≡ below (leb (top f) a) (a % top f) (leb (top f) b) (b % top f)
    go (finite v k) (finite w l) =
        lt_values (of_bits f a) (of_bits f b) (leb (top f) a) (leb (top f) b) (size_at (hid f) (a % top f)) (size_at (hid f) (b % top f)) (2 ^ low f) (pow_pos (low f)) v w
        ∙ sizes-order (hid f) (pow_pos (prec f - 1)) (leb (top f) a) (leb (top f) b) (a % top f) (b % top f)
    go (finite v k) (infinite e i) =
        rw e (lt_inf_right (of_bits f a) (leb (top f) a) (leb (top f) b) _ _ v ∙ inf_right (leb (top f) a) (leb (top f) b) (a % top f) (b % top f) (omega arith))
    go (infinite e i) (finite w l) =
        rw e (lt_inf_left (leb (top f) a) (of_bits f b) (leb (top f) b) _ _ w ∙ inf_left (leb (top f) a) (leb (top f) b) (a % top f) (b % top f) (omega arith))
    go (infinite e i) (infinite g j) =
        let k : 0 < ones f * hid f = mul-pos (omega arith) (pow_pos (prec f - 1)) in
        rw (e, g) (lt_inf_both (leb (top f) a) (leb (top f) b) ∙ inf_both (leb (top f) a) (leb (top f) b) (a % top f) (b % top f) (omega arith) (i ∙ sym j))

-- ---- as one integer, with both zeros in the middle

order_below : (s t : Bool) (o m n : ℕ) → m < o → n < o → below s m t n ≡ ltb (cond s (o - m) (o + m)) (cond t (o - n) (o + n))
order_below false false o m n p q = ltb_iff m n (o + m) (o + n) (λ h. omega arith) (λ h. omega arith)
order_below false true o m n p q = sym (le-ltb (o + m) (o - n) (omega arith))
order_below true false o m n p q = ltb_iff 0 (m + n) (o - m) (o + n) (λ h. omega arith) (λ h. omega arith)
order_below true true o m n p q = ltb_iff n m (o - m) (o - n) (λ h. omega arith) (λ h. omega arith)

pub order_lt : (a b : ℕ) → is_nan (of_bits binary32 a) ≡ false → is_nan (of_bits binary32 b) ≡ false → lt (of_bits binary32 a) (of_bits binary32 b) ≡ ltb (order_of a) (order_of b)
unfolding order_of
order_lt a b p q =
    bits_order binary32 a b p q
    ∙ order_below (leb 2147483648 a) (leb 2147483648 b) 2147483648 (a % 2147483648) (b % 2147483648) (mod-lt a (omega arith)) (mod-lt b (omega arith))

-- and of two floats
pub order_floats : (x y : Float) → T (fits binary32 x) → T (fits binary32 y) → is_nan x ≡ false → is_nan y ≡ false → lt x y ≡ ltb (order_of (to_bits binary32 x)) (order_of (to_bits binary32 y))
order_floats x y p q m n =
    let e = of_bits-to_bits binary32 x p in
    let g = of_bits-to_bits binary32 y q in
    rw (e, g) at (order_lt (to_bits binary32 x) (to_bits binary32 y) (rw e m) (rw g n))
