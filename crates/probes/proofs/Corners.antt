-- What a sound box and a sound probe have.
use Prim.Native.Nat.{ℕ, ◌+◌, ◌-◌, ◌<◌}
use mathlib.Core.Path.{◌≡◌, sym, ap, ◌∙◌}
use mathlib.Core.Bool.{Bool, true, false, not, ◌&&◌}
use mathlib.Core.List.{List}
use lib.Dec.{T, ltb}
use lib.Ieee.{Float, binary32, fits, is_nan, le, lt, nan_bits, of_bits, to_bits}
use borrow.Author.Tests.{ltb-true, not-true}
use Rattle.encoding.proofs.Below.{tests, either, and_fst, and_snd, all_at}
use Rattle.probes.specs.declared.Probe.{Probe}
use Rattle.probes.specs.declared.Probe.TheVariants.{Point, HalfSpace, Slab}
use Rattle.probes.specs.Probes.{box_number, low, high, axis_ok, box_ok, probe_ok, meets}
use Rattle.probes.specs.Means.{box_bits, order_of}
use Rattle.probes.proofs.Floats.{bits_float}
use Rattle.probes.proofs.Order.{order_lt, order_floats}

-- where both are numbers, low isn't above high in the order of the bits
corners_sound : (a b : ℕ) → (not (is_nan (of_bits binary32 a)) && not (is_nan (of_bits binary32 b)) && not (ltb (order_of b) (order_of a)))
    ≡ (not (is_nan (of_bits binary32 a)) && not (is_nan (of_bits binary32 b)) && not (lt (of_bits binary32 b) (of_bits binary32 a)))
corners_sound a b = either (is_nan (of_bits binary32 a)) (λ e. rw e) (λ e. either (is_nan (of_bits binary32 b)) (λ g. rw (e, g)) (λ g. rw (order_lt b a g e)))

module _ (part : List ℕ) (i : ℕ) where
  low-number : (axis : ℕ) → axis_ok part i axis ≡ true → not (is_nan (box_number part i axis)) ≡ true
  unfolding axis_ok
  low-number axis e = and_fst _ _ (and_fst _ _ e)

  high-number : (axis : ℕ) → axis_ok part i axis ≡ true → not (is_nan (box_number part i (3 + axis))) ≡ true
  unfolding axis_ok
  high-number axis e = and_snd (not (is_nan (box_number part i axis))) _ (and_fst _ (not (lt (box_number part i (3 + axis)) (box_number part i axis))) e)

  -- each of the six is a number
  pub box_number_lem : box_ok part i ≡ true → (k : ℕ) → k < 6 → not (is_nan (box_number part i k)) ≡ true
  unfolding box_ok
  box_number_lem ok k h =
      either (ltb k 3)
      (λ p. low-number k (all_at 3 (axis_ok part i) ok k (ltb-true _ _ p)))
      (λ p.
      let e : 3 + (k - 3) ≡ k = omega tests in
      rw e at (high-number (k - 3) (all_at 3 (axis_ok part i) ok (k - 3) (omega tests))))

  -- its bits may be made a float
  pub box_float : box_ok part i ≡ true → (k : ℕ) → k < 6 → (b : ℕ) → b ≡ box_bits part i k → T (not (nan_bits binary32 b))
  unfolding box_number
  box_float ok k h b e = bits_float b (rw e (box_number_lem ok k h))

  -- and the float is the one there
  pub box_read : (k : ℕ) {b : ℕ} → b ≡ box_bits part i k → of_bits binary32 b ≡ box_number part i k
  unfolding box_number
  box_read k e = ap (of_bits binary32) e

  -- an axis, by its bits alone
  pub axis_bits : (axis : ℕ) {a b : ℕ} → a ≡ box_bits part i axis → b ≡ box_bits part i (3 + axis) → {p q : Bool} → p ≡ not (is_nan (of_bits binary32 a)) → q ≡ not (is_nan (of_bits binary32 b))
      → {m n : ℕ} → m ≡ order_of b → n ≡ order_of a → (p && q && not (ltb m n)) ≡ axis_ok part i axis
  unfolding axis_ok box_number
  axis_bits axis {a} {b} is-a is_b is-p is-q is_m is_n = rw (← is-a, ← is_b, is-p, is-q, is_m, is_n) (corners_sound a b)

-- ---- each case of a probe

-- a number has bits
pub number_bits : (x : Float) → is_nan x ≡ false → T (not (is_nan x))
number_bits x e = rw e tt

module _ {probe : Probe} {x y z : Float} (e : probe ≡ Point x y z) where
  pub point_ok : {a b d : Bool} → a ≡ not (is_nan x) → b ≡ not (is_nan y) → d ≡ not (is_nan z) → (a && b && d) ≡ probe_ok probe
  unfolding probe_ok
  point_ok p q r = rw (e, p, q, r)

  pub point_meets : (part : List ℕ) (i : ℕ) {l₀ h₀ l₁ h₁ l₂ h₂ : Float} → l₀ ≡ low part i 0 → h₀ ≡ high part i 0 → l₁ ≡ low part i 1 → h₁ ≡ high part i 1
      → l₂ ≡ low part i 2 → h₂ ≡ high part i 2 → (le l₀ x && le x h₀ && le l₁ y && le y h₁ && le l₂ z && le z h₂) ≡ meets probe part i
  unfolding meets
  point_meets part i a b c d f g = rw (e, a, b, c, d, f, g)

module _ {probe : Probe} {axis : ℕ} {limit : Float} (e : probe ≡ HalfSpace axis limit) where
  pub half_ok : {a : Bool} → a ≡ not (is_nan limit) → (ltb axis 3 && a) ≡ probe_ok probe
  unfolding probe_ok
  half_ok p = rw (e, p)

  pub half_axis : probe_ok probe ≡ true → axis < 3
  unfolding probe_ok
  half_axis ok = ltb-true axis 3 (and_fst (ltb axis 3) (not (is_nan limit)) (rw e at ok))

  pub half_meets : (part : List ℕ) (i : ℕ) {l : Float} → l ≡ low part i axis → le l limit ≡ meets probe part i
  unfolding meets
  half_meets part i p = rw (e, p)

module _ {probe : Probe} {axis : ℕ} {lower upper : Float} (e : probe ≡ Slab axis lower upper) where
  module _ {a b : Bool} (is-a : a ≡ not (is_nan lower)) (is_b : b ≡ not (is_nan upper)) where
    pub slab_not : (ltb axis 3 && a && b) ≡ false → false ≡ probe_ok probe
    unfolding probe_ok
    slab_not h = rw (e, ← is-a, ← is_b, h)

    module _ (h : (ltb axis 3 && a && b) ≡ true) where
      pub lower_number : is_nan lower ≡ false
      lower_number = not-true _ (sym is-a ∙ and_snd (ltb axis 3) a (and_fst (ltb axis 3 && a) b h))

      pub upper_number : is_nan upper ≡ false
      upper_number = not-true _ (sym is_b ∙ and_snd (ltb axis 3 && a) b h)

      pub slab_ok : T (fits binary32 lower) → T (fits binary32 upper) → {m n : ℕ} → m ≡ order_of (to_bits binary32 upper) → n ≡ order_of (to_bits binary32 lower)
          → not (ltb m n) ≡ probe_ok probe
      unfolding probe_ok
      slab_ok p q is_m is_n = rw (e, ← is-a, ← is_b, h, is_m, is_n, order_floats upper lower q p upper_number lower_number)

  pub slab_axis : probe_ok probe ≡ true → axis < 3
  unfolding probe_ok
  slab_axis ok =
      ltb-true axis 3
      (and_fst (ltb axis 3) (not (is_nan lower))
      (and_fst (ltb axis 3 && not (is_nan lower)) (not (is_nan upper)) (and_fst (ltb axis 3 && not (is_nan lower) && not (is_nan upper)) (not (lt upper lower)) (rw e at ok))))

  pub slab_meets : (part : List ℕ) (i : ℕ) {l h : Float} → l ≡ low part i axis → h ≡ high part i axis → (le l upper && le lower h) ≡ meets probe part i
  unfolding meets
  slab_meets part i p q = rw (e, p, q)
