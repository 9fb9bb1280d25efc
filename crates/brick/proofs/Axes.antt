-- One axis: what stands across a face leads back. Three of them: places and numbers.
use Prim.Native.Nat.{ℕ, zero, suc, ◌+◌, ◌-◌, ◌*◌, ◌/◌, ◌%◌, ◌<◌}
use native.Mathlib.Omega.{arith}
use native.Mathlib.Nat.{add_comm, mul_comm, mul_assoc, mod-lt, div-add-mod, div-lt_iff_lt-mul}
use mathlib.Core.Path.{◌≡◌, refl, sym, ap, ◌∙◌}
use mathlib.Core.Bool.{Bool, true, false, not}
use mathlib.Core.List.{[], ◌∷◌}
use lib.Arith.{digits_lt, digits_div, digits_mod}
use lib.Dec.{eqb, lit≤}
use borrow.Author.Tests.{eq-eqb, ne_eqb, eqb-true, eqb-false}
use Rattle.encoding.proofs.Below.{tests, either}
use Rattle.brick.specs.Brick.{place_of, tree_at, axis_of, is_high, opposite, step_across}
use Rattle.brick.specs.Brick.Step.{boundary, tree}

-- ---- one axis

-- from the tree across a face, the opposite face leads back
pub step_back : (high : Bool) (e : ℕ) (periodic : Bool) (x v : ℕ) → x < e → step_across high e periodic x ≡ tree v → (v < e) × (step_across (not high) e periodic v ≡ tree x)
unfolding step_across
step_back true e true x v h p =
    either (eqb (x + 1) e)
    (λ t. let t' : tree 0 ≡ tree v = rw t at p in let q : v ≡ 0 = cc in let s : e - 1 ≡ x = omega tests in rw q (omega arith, ap tree s))
    (λ t. let n : x + 1 ≡ e → ⊥ = eqb-false (x + 1) e t in let t' : tree (x + 1) ≡ tree v = rw t at p in let q : v ≡ x + 1 = cc in
    let s : x + 1 - 1 ≡ x = omega arith in rw (q, ne_eqb (x + 1) 0 (λ z. omega arith)) (omega arith, ap tree s))
step_back true e false x v h p =
    either (eqb (x + 1) e)
    (λ t. let t' : boundary ≡ tree v = rw t at p in let z : ◌≡◌ {A = ℕ} 0 1 = cc in absurd (omega arith))
    (λ t. let n : x + 1 ≡ e → ⊥ = eqb-false (x + 1) e t in let t' : tree (x + 1) ≡ tree v = rw t at p in let q : v ≡ x + 1 = cc in
    let s : x + 1 - 1 ≡ x = omega arith in rw (q, ne_eqb (x + 1) 0 (λ z. omega arith)) (omega arith, ap tree s))
step_back false e true x v h p =
    either (eqb x 0)
    (λ t. let z : x ≡ 0 = eqb-true x 0 t in let t' : tree (e - 1) ≡ tree v = rw t at p in let q : v ≡ e - 1 = cc in
    let s : e - 1 + 1 ≡ e = omega arith in rw (q, s, eq-eqb e e refl, z) (omega arith, refl))
    (λ t. let n : x ≡ 0 → ⊥ = eqb-false x 0 t in let t' : tree (x - 1) ≡ tree v = rw t at p in let q : v ≡ x - 1 = cc in
    let s : x - 1 + 1 ≡ x = omega arith in rw (q, s, ne_eqb x e (λ z. omega arith)) (omega arith, refl))
step_back false e false x v h p =
    either (eqb x 0)
    (λ t. let t' : boundary ≡ tree v = rw t at p in let z : ◌≡◌ {A = ℕ} 0 1 = cc in absurd (omega arith))
    (λ t. let n : x ≡ 0 → ⊥ = eqb-false x 0 t in let t' : tree (x - 1) ≡ tree v = rw t at p in let q : v ≡ x - 1 = cc in
    let s : x - 1 + 1 ≡ x = omega arith in rw (q, s, ne_eqb x e (λ z. omega arith)) (omega arith, refl))

-- ---- places and numbers

-- a number from its two digits
join : (n m : ℕ) → n % m + m * (n / m) ≡ n
join n m = add_comm (n % m) (m * (n / m)) ∙ div-add-mod n m

digits : (m r q : ℕ) → r < m → ((r + m * q) % m ≡ r) × ((r + m * q) / m ≡ q)
digits m r q h =
    let e : r + m * q ≡ q * m + r = add_comm r (m * q) ∙ ap (λ n. n + r) (mul_comm m q) in
    (rw e (digits_mod q h), rw e (digits_div q h))

turned_round : (a b c : ℕ) → a * b * c ≡ c * b * a
turned_round a b c = mul_comm (a * b) c ∙ (ap (λ m. c * m) (mul_comm a b) ∙ sym (mul_assoc c b a))

module _ (a b : ℕ) where
  -- the tree at a tree's place
  pub tree_place_lem : (k : ℕ) → tree_at a b (place_of a b k) ≡ k
  unfolding tree_at place_of
  tree_place_lem k = rw (join (k / a) b) (join k a)

  -- the place of the tree at a place
  pub place_tree : (x y z : ℕ) → x < a → y < b → place_of a b (tree_at a b (x ∷ y ∷ z ∷ [])) ≡ (x ∷ y ∷ z ∷ [])
  unfolding tree_at place_of
  place_tree x y z h g = rw ((digits a x (y + b * z) h).0, (digits a x (y + b * z) h).1, (digits b y z g).0, (digits b y z g).1)

  -- it is a tree of the brick
  pub tree_below_lem : (c x y z : ℕ) → x < a → y < b → z < c → tree_at a b (x ∷ y ∷ z ∷ []) < a * b * c
  unfolding tree_at
  tree_below_lem c x y z h g i =
      let w : z * b + y < c * b = digits_lt i g in
      let n : (z * b + y) * a + x < c * b * a = digits_lt w h in
      let f : x + a * (y + b * z) ≡ (z * b + y) * a + x = ap (λ m. x + a * m) (add_comm y (b * z) ∙ ap (λ m. m + y) (mul_comm b z)) ∙ (add_comm x (a * (z * b + y)) ∙ ap (λ m. m + x) (mul_comm a (z * b + y))) in
      rw (turned_round a b c, f) n

  -- each coordinate is within its extent
  pub place_inside : (c k : ℕ) → 0 < a → 0 < b → k < a * b * c → (k % a < a) × (k / a % b < b) × (k / a / b < c)
  place_inside c k ha hb h =
      let n : k < c * b * a = rw (turned_round a b c) at h in
      (mod-lt k ha, mod-lt (k / a) hb, (div-lt_iff_lt-mul hb).1 ((div-lt_iff_lt-mul ha).1 n))

-- ---- faces

-- both faces of an axis
pub opposite_face : (f : ℕ) → f < 6 → (axis_of (opposite f) ≡ axis_of f) × (is_high (opposite f) ≡ not (is_high f)) × (opposite (opposite f) ≡ f) × (opposite f < 6) × (axis_of f < 3)
unfolding axis_of is_high opposite
opposite_face zero h = (refl, refl, refl, lit≤ tt, lit≤ tt)
opposite_face (suc zero) h = (refl, refl, refl, lit≤ tt, lit≤ tt)
opposite_face (suc (suc zero)) h = (refl, refl, refl, lit≤ tt, lit≤ tt)
opposite_face (suc (suc (suc zero))) h = (refl, refl, refl, lit≤ tt, lit≤ tt)
opposite_face (suc (suc (suc (suc zero)))) h = (refl, refl, refl, lit≤ tt, lit≤ tt)
opposite_face (suc (suc (suc (suc (suc zero))))) h = (refl, refl, refl, lit≤ tt, lit≤ tt)
opposite_face (suc (suc (suc (suc (suc (suc f)))))) h = absurd (omega arith)
