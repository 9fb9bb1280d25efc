-- The rows as the code works them out, one argument for the low faces and one for the high, over the axis: the trees along an axis differ by its stride.
use Prim.Native.Nat.{ℕ, suc, ◌+◌, ◌-◌, ◌*◌, ◌≤◌, ◌<◌}
use native.Mathlib.Omega.{arith}
use native.Mathlib.Numerals.{add-one}
use native.Mathlib.Nat.{mul_comm, mul_assoc, mul-add, mul-zero, mul-suc, mul-le-mul, mul-le-mul_left, mul-le-mul_right}
use mathlib.Core.Path.{◌≡◌, refl, sym, ap, ◌∙◌}
use mathlib.Core.Bool.{Bool, true, false}
use mathlib.Core.List.{List, [], ◌∷◌}
use lib.Dec.{eqb, lit≤}
use lib.ListN.{get_or, set}
use borrow.Author.Tests.{eqb-true, eqb-false, lt-ltb}
use Rattle.encoding.proofs.Below.{either}
use Rattle.records.specs.Shape.{face_count}
use Rattle.mesh_build.specs.Build.{face_row, tree_rows}
use Rattle.brick.specs.Brick.{hexahedron, place_of, tree_at, axis_of, is_high, opposite, Step, step_across, link_by_step, brick_link}
use Rattle.brick.specs.Brick.Step.{boundary, tree}
use Rattle.brick.specs.Means.{Stands, OnAxis, low_row, high_row}
use Rattle.brick.proofs.Axes.{place_tree, place_inside}
use Rattle.brick.proofs.Sound.{Within}

-- the row of what stands across
unfoldable step_row : (ℕ → ℕ) → ℕ → ℕ → ℕ → Step → List ℕ
step_row n k f g boundary = k ∷ f ∷ 0 ∷ []
step_row n k f g (tree v) = n v ∷ g ∷ 0 ∷ []

-- n v is the tree with coordinate v on an axis
module _ (n : ℕ → ℕ) (base s k x e : ℕ) (along : (v : ℕ) → n v ≡ base + s * v) (own : k ≡ base + s * x) (inside : x < e) (periodic : Bool) (f : ℕ) where
  down : (x ≡ 0 → ⊥) → n (x - 1) ≡ k - s
  down h =
      let i : suc (x - 1) ≡ x = omega arith in
      let m : s * x ≡ s * (x - 1) + s = ap (λ t. s * t) (sym i) ∙ mul-suc s (x - 1) in
      rw (along, own) (omega arith)

  down_round : x ≡ 0 → n (e - 1) ≡ k + (e - 1) * s
  down_round h =
      let m : s * x ≡ 0 = ap (λ t. s * t) h ∙ mul-zero s in
      rw (along, own, mul_comm (e - 1) s) (omega arith)

  up : n (x + 1) ≡ k + s
  up =
      let m : s * (x + 1) ≡ s * x + s = ap (λ t. s * t) (add-one x) ∙ mul-suc s x in
      rw (along, own) (omega arith)

  up_round : x + 1 ≡ e → n 0 ≡ k - (e - 1) * s
  up_round h =
      let i : e - 1 ≡ x = omega arith in
      let m : (e - 1) * s ≡ s * x = ap (λ t. t * s) i ∙ mul_comm x s in
      let o : s * 0 ≡ 0 = mul-zero s in
      rw (along, own, m) (omega arith)

  low-row : step_row n k f (f + 1) (step_across false e periodic x) ≡ low_row k x e s periodic f
  unfolding step_across step_row low_row
  low-row =
      either (eqb x 0)
      (λ t. rw t (either periodic (λ o. rw (o, down_round (eqb-true x 0 t))) (λ o. rw o)))
      (λ t. rw (t, down (eqb-false x 0 t)))

  high-row : step_row n k f (f - 1) (step_across true e periodic x) ≡ high_row k x e s periodic f
  unfolding step_across step_row high_row
  high-row =
      either (eqb (x + 1) e)
      (λ t. rw t (either periodic (λ o. rw (o, up_round (eqb-true (x + 1) e t))) (λ o. rw o)))
      (λ t. rw (t, up))

-- ---- the three axes: the tree with coordinate v there

along_first : (a b y z v : ℕ) → v + a * (y + b * z) ≡ a * (y + b * z) + 1 * v
along_first a b y z v = omega arith

along_second : (a b x z v : ℕ) → x + a * (v + b * z) ≡ x + a * (b * z) + a * v
along_second a b x z v = rw (mul-add a v (b * z)) (omega arith)

along_third : (a b x y v : ℕ) → x + a * (y + b * v) ≡ x + a * y + a * b * v
along_third a b x y v = rw (mul-add a y (b * v), mul_assoc a b v) (omega arith)

-- ---- of a brick

link_row_lem : (a b k f : ℕ) (s : Step)
    → ((link_by_step a b k f s).neighbour ∷ (link_by_step a b k f s).face ∷ (link_by_step a b k f s).orientation ∷ [])
    ≡ step_row (λ v. tree_at a b (set (place_of a b k) (axis_of f) v)) k f (opposite f) s
unfolding link_by_step step_row
link_row_lem a b k f boundary = refl
link_row_lem a b k f (tree v) = refl

module _ (a b c : ℕ) (p q r : Bool) (ok : Within a b c) (k x y z : ℕ) (at : Stands a b k x y z) (below : k < a * b * c) where
  place_at : place_of a b k ≡ (x ∷ y ∷ z ∷ [])
  unfolding tree_at
  place_at = ap (place_of a b) at.number ∙ place_tree a b x y z at.first at.second

  third-inside : z < c
  unfolding place_of
  third-inside = rw (ap (λ s. get_or s 2 0) place_at) at (place_inside a b c k ok.first.0 ok.second.0 below).2

  -- the row of a face, by what stands across it
  face-row : (f : ℕ) → f < 6
      → face_row hexahedron (brick_link a b c p q r k) f
      ≡ step_row (λ v. tree_at a b (set (x ∷ y ∷ z ∷ []) (axis_of f) v)) k f (opposite f)
      (step_across (is_high f) (get_or (a ∷ b ∷ c ∷ []) (axis_of f) 0) (get_or (p ∷ q ∷ r ∷ []) (axis_of f) false) (get_or (x ∷ y ∷ z ∷ []) (axis_of f) 0))
  unfolding face_row face_count brick_link
  face-row f h =
      rw (lt-ltb f 6 h)
      (link_row_lem a b k f (step_across (is_high f) (get_or (a ∷ b ∷ c ∷ []) (axis_of f) 0) (get_or (p ∷ q ∷ r ∷ []) (axis_of f) false) (get_or (place_of a b k) (axis_of f) 0))
      ∙ ap (λ s. step_row (λ v. tree_at a b (set s (axis_of f) v)) k f (opposite f) (step_across (is_high f) (get_or (a ∷ b ∷ c ∷ []) (axis_of f) 0) (get_or (p ∷ q ∷ r ∷ []) (axis_of f) false) (get_or s (axis_of f) 0))) place_at)

  row-0 : face_row hexahedron (brick_link a b c p q r k) 0 ≡ low_row k x a 1 p 0
  unfolding axis_of is_high opposite tree_at
  row-0 = face-row 0 (lit≤ tt) ∙ low-row (λ v. v + a * (y + b * z)) (a * (y + b * z)) 1 k x a (along_first a b y z) (at.number ∙ along_first a b y z x) at.first p 0

  row-1 : face_row hexahedron (brick_link a b c p q r k) 1 ≡ high_row k x a 1 p 1
  unfolding axis_of is_high opposite tree_at
  row-1 = face-row 1 (lit≤ tt) ∙ high-row (λ v. v + a * (y + b * z)) (a * (y + b * z)) 1 k x a (along_first a b y z) (at.number ∙ along_first a b y z x) at.first p 1

  row-2 : face_row hexahedron (brick_link a b c p q r k) 2 ≡ low_row k y b a q 2
  unfolding axis_of is_high opposite tree_at
  row-2 = face-row 2 (lit≤ tt) ∙ low-row (λ v. x + a * (v + b * z)) (x + a * (b * z)) a k y b (along_second a b x z) (at.number ∙ along_second a b x z y) at.second q 2

  row-3 : face_row hexahedron (brick_link a b c p q r k) 3 ≡ high_row k y b a q 3
  unfolding axis_of is_high opposite tree_at
  row-3 = face-row 3 (lit≤ tt) ∙ high-row (λ v. x + a * (v + b * z)) (x + a * (b * z)) a k y b (along_second a b x z) (at.number ∙ along_second a b x z y) at.second q 3

  row-4 : face_row hexahedron (brick_link a b c p q r k) 4 ≡ low_row k z c (a * b) r 4
  unfolding axis_of is_high opposite tree_at
  row-4 = face-row 4 (lit≤ tt) ∙ low-row (λ v. x + a * (y + b * v)) (x + a * y) (a * b) k z c (along_third a b x y) (at.number ∙ along_third a b x y z) third-inside r 4

  row-5 : face_row hexahedron (brick_link a b c p q r k) 5 ≡ high_row k z c (a * b) r 5
  unfolding axis_of is_high opposite tree_at
  row-5 = face-row 5 (lit≤ tt) ∙ high-row (λ v. x + a * (y + b * v)) (x + a * y) (a * b) k z c (along_third a b x y) (at.number ∙ along_third a b x y z) third-inside r 5

  -- the six together
  pub brick_rows : {r0 r1 r2 r3 r4 r5 : List ℕ} → r0 ≡ low_row k x a 1 p 0 → r1 ≡ high_row k x a 1 p 1 → r2 ≡ low_row k y b a q 2 → r3 ≡ high_row k y b a q 3
      → r4 ≡ low_row k z c (a * b) r 4 → r5 ≡ high_row k z c (a * b) r 5 → (r0 ∷ r1 ∷ r2 ∷ r3 ∷ r4 ∷ r5 ∷ []) ≡ tree_rows hexahedron (brick_link a b c p q r k)
  unfolding tree_rows
  brick_rows e0 e1 e2 e3 e4 e5 = rw (e0, e1, e2, e3, e4, e5, row-0, row-1, row-2, row-3, row-4, row-5)

  -- what the rows need
  few : k < 262144
  few = omega (arith, ok.few)

  pub on_first_lem : OnAxis k x a 1
  on_first_lem = record { inside = at.first; before = omega (arith, at.number ∙ along_first a b y z x); fits = omega (arith, few, ok.first.1) }

  pub on_second : OnAxis k y b a
  on_second =
      record {
        inside = at.second;
        before = omega (arith, at.number ∙ along_second a b x z y);
        fits = let m : b * a ≤ 64 * 64 = mul-le-mul ok.second.1 ok.first.1 in omega (arith, few);
      }

  pub on_third : OnAxis k z c (a * b)
  on_third =
      record {
        inside = third-inside;
        before = omega (arith, at.number ∙ along_third a b x y z);
        fits = let m : c * (a * b) ≤ 64 * 4096 = mul-le-mul ok.third.1 ok.layer in omega (arith, few);
      }

-- ---- from tree to tree

pub stands_first : (a b c : ℕ) → Within a b c → Stands a b 0 0 0 0
stands_first a b c ok = record { first = ok.first.0; second = ok.second.0; number = sym (rw (mul-zero b, mul-zero a)) }

module _ (a b k x y z : ℕ) (at : Stands a b k x y z) where
  -- the third coordinate is at most the number
  pub third_most : z ≤ k
  third_most =
      let m : 1 * z ≤ b * z = mul-le-mul_right z (omega (arith, at.second)) in
      let n : 1 * (y + b * z) ≤ a * (y + b * z) = mul-le-mul_right (y + b * z) (omega (arith, at.first)) in
      omega (arith, at.number)

  -- from the end of a layer to the next one; the other steps are plain sums
  pub next_third : a ≤ x + 1 → b ≤ y + 1 → Stands a b (k + 1) 0 0 (z + 1)
  next_third h g =
      let s : b * (z + 1) ≡ b * z + b = ap (λ t. b * t) (add-one z) ∙ mul-suc b z in
      let e : 0 + b * (z + 1) ≡ suc (y + b * z) = omega (arith, at.second) in
      let n : a * (0 + b * (z + 1)) ≡ a * (y + b * z) + a = ap (λ t. a * t) e ∙ mul-suc a (y + b * z) in
      record { first = omega (arith, at.first); second = omega (arith, at.second); number = omega (arith, at.number, at.first) }

-- ---- along an axis nothing wraps

module _ (k x e s : ℕ) (on : OnAxis k x e s) where
  pub step_below : (x ≡ 0 → ⊥) → s ≤ k
  step_below h = let m : s * 1 ≤ s * x = mul-le-mul_left s (omega arith) in omega (arith, on.before)

  pub span_fits : (e - 1) * s ≤ e * s
  span_fits = mul-le-mul_right s (omega arith)

  pub span_below : x + 1 ≡ e → (e - 1) * s ≤ k
  span_below h =
      let i : e - 1 ≡ x = omega arith in
      let m : (e - 1) * s ≡ s * x = ap (λ t. t * s) i ∙ mul_comm x s in
      omega (arith, on.before)

  pub stride_fits : s ≤ e * s
  stride_fits = let m : 1 * s ≤ e * s = mul-le-mul_right s (omega (arith, on.inside)) in omega arith
