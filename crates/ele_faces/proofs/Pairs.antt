-- Two vertices in either order.
use Prim.Native.Nat.{ℕ, ◌+◌, ◌*◌, ◌/◌, ◌%◌, ◌≤◌, ◌<◌, min, max}
use mathlib.Core.Path.{◌≡◌, refl, sym, ap, ◌∙◌}
use mathlib.Core.Bool.{Bool, true, false, cond, ◌&&◌, ◌||◌}
use mathlib.Core.List.{List}
use native.Mathlib.Nat.{mod-lt, add-zero}
use native.Mathlib.Omega.{arith}
use lib.Dec.{ltb, eqb}
use lib.ListN.{get_or}
use borrow.Author.Tests.{eqb-true, eq-eqb, ne_eqb, lt-ltb, le-ltb}
use Rattle.encoding.proofs.Below.{tests, either, and_fst, and_snd, and_intro}
use Rattle.ele_faces.specs.Faces.{corner_of, first_vertex, second_vertex, same_set, turn_of}
use Rattle.ele_faces.specs.Means.{mixed, hash_of}

-- ---- the vertices of a face

module _ (vs : List ℕ) (f : ℕ) where
  pub first_one : f % 3 ≡ 0 → get_or vs (3 * (f / 3) + 1) 0 ≡ first_vertex vs f
  unfolding first_vertex corner_of
  first_one e = rw (eq-eqb (f % 3) 0 e)

  pub first_zero : (f % 3 ≡ 0 → ⊥) → get_or vs (3 * (f / 3)) 0 ≡ first_vertex vs f
  unfolding first_vertex corner_of
  first_zero e = rw (ne_eqb (f % 3) 0 e, add-zero)

  pub second_one : f % 3 ≡ 2 → get_or vs (3 * (f / 3) + 1) 0 ≡ second_vertex vs f
  unfolding second_vertex corner_of
  second_one e = rw (eq-eqb (f % 3) 2 e)

  pub second_two : (f % 3 ≡ 2 → ⊥) → get_or vs (3 * (f / 3) + 2) 0 ≡ second_vertex vs f
  unfolding second_vertex corner_of
  second_two e = rw (ne_eqb (f % 3) 2 e)

module _ (vs : List ℕ) (f g : ℕ) {a b c d : ℕ} (ea : a ≡ first_vertex vs f) (eb : b ≡ second_vertex vs f) (ec : c ≡ first_vertex vs g) (ed : d ≡ second_vertex vs g) where
  pub same_read : ((eqb a c && eqb b d) || (eqb a d && eqb b c)) ≡ same_set vs f g
  unfolding same_set
  same_read = rw (ea, eb, ec, ed)

-- ---- in order

-- the lower and the higher of two numbers
pub low : ℕ → ℕ → ℕ
low a b = cond (ltb a b) a b

pub high : ℕ → ℕ → ℕ
high a b = cond (ltb a b) b a

low_turned : (a b : ℕ) → low a b ≡ low b a
unfolding low
low_turned a b =
    either (ltb a b)
    (λ p. rw (p, le-ltb b a (omega tests)))
    (λ p. either (ltb b a) (λ q. rw (p, q)) (λ q. rw (p, q) (omega tests)))

high_turned : (a b : ℕ) → high a b ≡ high b a
unfolding high
high_turned a b =
    either (ltb a b)
    (λ p. rw (p, le-ltb b a (omega tests)))
    (λ p. either (ltb b a) (λ q. rw (p, q)) (λ q. rw (p, q) (omega tests)))

-- the same two numbers
abbrev Alike : ℕ → ℕ → ℕ → ℕ → Bool
Alike a b c d = (eqb a c && eqb b d) || (eqb a d && eqb b c)

alike_ends : (a b c d : ℕ) → Alike a b c d ≡ true → (low a b ≡ low c d) × (high a b ≡ high c d)
alike_ends a b c d e =
    either (eqb a c && eqb b d)
    (λ p. let x : a ≡ c = eqb-true a c (and_fst (eqb a c) _ p) in let y : b ≡ d = eqb-true b d (and_snd (eqb a c) _ p) in rw (x, y) (refl, refl))
    (λ p. let t : (eqb a d && eqb b c) ≡ true = rw p at e in
    let x : a ≡ d = eqb-true a d (and_fst (eqb a d) _ t) in
    let y : b ≡ c = eqb-true b c (and_snd (eqb a d) _ t) in
    rw (x, y) (low_turned d c, high_turned d c))

-- the two numbers, one way or the other
either_order : (a b : ℕ) → {C : Type 0} → (low a b ≡ a → high a b ≡ b → C) → (low a b ≡ b → high a b ≡ a → C) → C
unfolding low high
either_order a b f g = either (ltb a b) (λ p. f (rw p) (rw p)) (λ p. g (rw p) (rw p))

or_left : (a b : Bool) → a ≡ true → (a || b) ≡ true
or_left a b e = rw e

or_right : (a b : Bool) → b ≡ true → (a || b) ≡ true
or_right true b e = refl
or_right false b e = e

straight : (a b c d : ℕ) → a ≡ c → b ≡ d → Alike a b c d ≡ true
straight a b c d p q = or_left (eqb a c && eqb b d) (eqb a d && eqb b c) (and_intro (eqb a c) (eqb b d) (eq-eqb a c p) (eq-eqb b d q))

crossed : (a b c d : ℕ) → a ≡ d → b ≡ c → Alike a b c d ≡ true
crossed a b c d p q = or_right (eqb a c && eqb b d) (eqb a d && eqb b c) (and_intro (eqb a d) (eqb b c) (eq-eqb a d p) (eq-eqb b c q))

ends_alike : (a b c d : ℕ) → low a b ≡ low c d → high a b ≡ high c d → Alike a b c d ≡ true
ends_alike a b c d l h =
    either_order a b
    (λ p q. either_order c d (λ r s. straight a b c d (omega arith) (omega arith)) (λ r s. crossed a b c d (omega arith) (omega arith)))
    (λ p q. either_order c d (λ r s. crossed a b c d (omega arith) (omega arith)) (λ r s. straight a b c d (omega arith) (omega arith)))

-- ---- vertex sets

module _ (vs : List ℕ) where
  low_of : ℕ → ℕ
  low_of f = low (first_vertex vs f) (second_vertex vs f)

  high_of : ℕ → ℕ
  high_of f = high (first_vertex vs f) (second_vertex vs f)

  same_ends : (f g : ℕ) → same_set vs f g ≡ true → (low_of f ≡ low_of g) × (high_of f ≡ high_of g)
  unfolding same_set low_of high_of
  same_ends f g e = alike_ends (first_vertex vs f) (second_vertex vs f) (first_vertex vs g) (second_vertex vs g) e

  ends_same : (f g : ℕ) → (low_of f ≡ low_of g) → (high_of f ≡ high_of g) → same_set vs f g ≡ true
  unfolding same_set low_of high_of
  ends_same f g l h = ends_alike (first_vertex vs f) (second_vertex vs f) (first_vertex vs g) (second_vertex vs g) l h

  pub same_turned : (f g : ℕ) → same_set vs f g ≡ true → same_set vs g f ≡ true
  same_turned f g e = ends_same g f (sym (same_ends f g e).0) (sym (same_ends f g e).1)

  pub same_on : (f g h : ℕ) → same_set vs f g ≡ true → same_set vs g h ≡ true → same_set vs f h ≡ true
  same_on f g h e q = ends_same f h ((same_ends f g e).0 ∙ (same_ends g h q).0) ((same_ends f g e).1 ∙ (same_ends g h q).1)

  -- ---- hashes

  hash-ends : (m f : ℕ) → hash_of vs m f ≡ (4294967296 * low_of f + high_of f) % m
  unfolding hash_of mixed low_of high_of low high
  hash-ends m f = either (ltb (first_vertex vs f) (second_vertex vs f)) (λ p. rw p) (λ p. rw p)

  pub same_hash : (m f g : ℕ) → same_set vs f g ≡ true → hash_of vs m g ≡ hash_of vs m f
  same_hash m f g e =
      hash-ends m g ∙ (ap (λ (n : ℕ). (4294967296 * n + high_of g) % m) (sym (same_ends f g e).0) ∙ (ap (λ (n : ℕ). (4294967296 * low_of f + n) % m) (sym (same_ends f g e).1) ∙ sym (hash-ends m f)))

  module _ (m f : ℕ) (some : 1 ≤ m) {a b : ℕ} (ea : a ≡ first_vertex vs f) (eb : b ≡ second_vertex vs f) where
    pub hash_read : ((4294967296 * min a b + max a b) % m ≡ hash_of vs m f) × ((4294967296 * min a b + max a b) % m < m)
    unfolding hash_of mixed
    hash_read = (
      rw (← ea, ← eb)
          (either (ltb a b)
          (λ p. let n : min a b ≡ a = omega tests in let x : max a b ≡ b = omega tests in rw (p, n, x))
          (λ p. let n : min a b ≡ b = omega tests in let x : max a b ≡ a = omega tests in rw (p, n, x))),
      mod-lt _ some,
    )

  -- ---- orientation

  pub turn_turned : (f g : ℕ) → turn_of vs f g ≡ turn_of vs g f
  unfolding turn_of
  turn_turned f g =
      either (eqb (first_vertex vs f) (first_vertex vs g))
      (λ p. rw (p, eq-eqb (first_vertex vs g) (first_vertex vs f) (sym (eqb-true (first_vertex vs f) (first_vertex vs g) p))))
      (λ p. rw (p, ne_eqb (first_vertex vs g) (first_vertex vs f) (λ q. borrow.Author.Tests.eqb-false (first_vertex vs f) (first_vertex vs g) p (sym q))))

  module _ (f g : ℕ) {a c : ℕ} (ea : a ≡ first_vertex vs f) (ec : c ≡ first_vertex vs g) where
    pub turn_none : a ≡ c → 0 ≡ turn_of vs f g
    unfolding turn_of
    turn_none e = rw (← ea, ← ec, eq-eqb a c e)

    pub turn_one : (a ≡ c → ⊥) → 1 ≡ turn_of vs f g
    unfolding turn_of
    turn_one e = rw (← ea, ← ec, ne_eqb a c e)
