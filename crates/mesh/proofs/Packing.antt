-- Lists of face numbers as digits: the last one, and the rest.
use Prim.Native.Nat.{ℕ, zero, suc, ◌+◌, ◌-◌, ◌*◌, ◌/◌, ◌%◌, ◌≤◌, ◌<◌}
use native.Mathlib.Nat.{le_refl}
use native.Mathlib.Numerals.{add-one}
use native.Mathlib.Omega.{arith}
use mathlib.Core.Path.{◌≡◌, refl, sym, ◌∙◌}
use mathlib.Core.Bool.{Bool, true, false, cond, ◌&&◌, and-true}
use mathlib.Core.List.{List}
use lib.Dec.{ltb}
use borrow.Author.Tests.{lt-ltb, le-ltb}
use Rattle.encoding.specs.Below.{all_below}
use Rattle.encoding.proofs.Below.{tests, either, below_suc, all_intro, all_same, all_and}
use Rattle.records.specs.Record.{neighbour_of}
use Rattle.mesh.specs.Means.{leads_up, leads_inside, face_from_above, down_sound, listed_sound, listed_link, packed}

module _ (p : ℕ → Bool) where
  pub packed_none : 0 ≡ packed 0 p
  unfolding packed
  packed_none = refl

  pub packed_more : {list r : ℕ} {b : Bool} (f : ℕ) → list ≡ packed f p → b ≡ p f → r ≡ cond b (8 * list + (f + 1)) list → r ≡ packed (f + 1) p
  unfolding packed
  packed_more f e t q = rw (add-one f, q, t, e)

  pub packed_at : {list : ℕ} (n i : ℕ) → i ≤ n → n ≤ i → list ≡ packed i p → list ≡ packed n p
  packed_at n i h k e = let same : n ≡ i = omega arith in rw same e

  step : (n b : ℕ) → packed n p ≤ b → packed (suc n) p ≤ 8 * b + (n + 1)
  unfolding packed
  step n b h = either (p n) (λ e. rw e (omega arith)) (λ e. rw e (omega arith))

  zero-small : packed 0 p ≤ 0
  unfolding packed
  zero-small = le_refl 0

  one-small : packed 1 p ≤ 1
  one-small = step 0 0 zero-small

  two_small : packed 2 p ≤ 10
  two_small = step 1 1 one-small

  three_small : packed 3 p ≤ 83
  three_small = step 2 10 two_small

  four-small : packed 4 p ≤ 668
  four-small = step 3 83 three_small

  five-small : packed 5 p ≤ 5349
  five-small = step 4 668 four-small

  packed-small : (n : ℕ) → n < 6 → packed n p ≤ 5349
  packed-small zero h = omega (arith, zero-small)
  packed-small (suc zero) h = omega (arith, one-small)
  packed-small (suc (suc zero)) h = omega (arith, two_small)
  packed-small (suc (suc (suc zero))) h = omega (arith, three_small)
  packed-small (suc (suc (suc (suc zero)))) h = omega (arith, four-small)
  packed-small (suc (suc (suc (suc (suc zero))))) h = five-small
  packed-small (suc (suc (suc (suc (suc (suc n)))))) h = absurd (omega arith)

  pub list_small : {list : ℕ} (n : ℕ) → list ≡ packed n p → n < 6 → list ≤ 5349
  list_small n e h = rw e (packed-small n h)

  -- where the list is empty, none passes
  packed_zero : (n : ℕ) → packed n p ≡ 0 → (f : ℕ) → f < n → p f ≡ false
  unfolding packed
  packed_zero zero e f h = absurd (omega arith)
  packed_zero (suc n) e f h =
      either (p n)
      (λ q. absurd (let z : 8 * packed n p + (n + 1) ≡ 0 = rw q at e in omega arith))
      (λ q. let z : packed n p ≡ 0 = rw q at e in below_suc f n h (packed_zero n z f) (λ w. rw w q))

  -- the last of the list
  pub record Last (left n : ℕ) : Type 0 where
    pub face : ℕ
    pub less : face < n
    pub passes : p face ≡ true
    pub digit : left ≡ 8 * packed face p + (face + 1)
    pub between : (f : ℕ) → face < f → f < n → p f ≡ false

  last : (n : ℕ) → 0 < packed n p → Last (packed n p) n
  unfolding packed
  last zero h = absurd (omega arith)
  last (suc n) h =
      either (p n)
      (λ q. record { face = n; less = le_refl (suc n); passes = q; digit = rw q; between = λ f a b. absurd (omega arith) })
      (λ q.
      let l = last n (rw q at h) in
      record { face = l.face; less = omega (arith, l.less); passes = l.passes; digit = rw q l.digit; between = λ f a b. below_suc f n b (l.between f a) (λ w. rw w q) })

  -- what is left of a list, and each that was taken passes a second test
  module _ (test : ℕ → Bool) (n : ℕ) where
    pub record Left (left : ℕ) : Type 0 where
      pub below : ℕ
      pub within : below ≤ n
      pub list : left ≡ packed below p
      pub taken : (f : ℕ) → below ≤ f → f < n → test f ≡ true

    pub left_all : {left : ℕ} → left ≡ packed n p → Left left
    left_all e = record { below = n; within = le_refl n; list = e; taken = λ f a b. absurd (omega arith) }

    module _ (others : (f : ℕ) → p f ≡ false → test f ≡ true) where
      pub left_none : {left : ℕ} → Left left → left ≤ 0 → all_below n test ≡ true
      left_none l h =
          all_intro n test
          (λ f b. either (ltb f l.below) (λ e. others f (packed_zero l.below (omega (arith, l.list)) f (omega tests))) (λ e. l.taken f (omega tests) b))

      module _ {left : ℕ} (l : Left left) (some : 0 < left) (few : n ≤ 6) where
        pub taken_next : Last left l.below
        taken_next = rw l.list (last l.below (rw l.list at some))

        pub next_digit : left % 8 ≡ taken_next.face + 1
        next_digit = omega (arith, taken_next.digit, taken_next.less, l.within)

        pub next_rest : left / 8 ≡ packed taken_next.face p
        next_rest = omega (arith, taken_next.digit, taken_next.less, l.within)

        -- it stands in the last digit
        next-face : left % 8 - 1 ≡ taken_next.face
        next-face = omega (arith, next_digit)

        pub next_passes : (p (left % 8 - 1) ≡ true) × (left % 8 - 1 < n)
        next_passes = (rw next-face taken_next.passes, omega (arith, next-face, taken_next.less, l.within))

        pub left_next : test (left % 8 - 1) ≡ true → Left (left / 8)
        left_next t = record {
          below = taken_next.face;
          within = omega (arith, taken_next.less, l.within);
          list = next_rest;
          taken = λ f a b. either (ltb taken_next.face f) (λ q. either (ltb f l.below) (λ w. others f (taken_next.between f (omega tests) (omega tests))) (λ w. l.taken f (omega tests) b)) (λ q. let same : f ≡ left % 8 - 1 = omega (tests, next-face) in rw same t);
        }

module _ (core : ℕ → List ℕ) (d k : ℕ) where
  not_listed : (f : ℕ) → listed_link core k f ≡ false → leads_up core k f ≡ true
  unfolding listed_link leads_up
  not_listed f e = lt-ltb k (neighbour_of (core k) f) (omega tests)

  pub listed_down : (f : ℕ) → listed_link core k f ≡ true → leads_up core k f ≡ false
  unfolding listed_link leads_up
  listed_down f e = le-ltb k (neighbour_of (core k) f) (omega tests)

  pub not_listed_sound : (f : ℕ) → listed_link core k f ≡ false → listed_sound core d k f ≡ true
  unfolding listed_sound
  not_listed_sound f e = rw (not_listed f e)

  pub listed_is : (f : ℕ) → listed_link core k f ≡ true → listed_sound core d k f ≡ down_sound core d k f
  unfolding listed_sound
  listed_is f e = rw (listed_down f e)

  face-both : (K : ℕ) → k < K → (f : ℕ) → face_from_above core d K k f ≡ (leads_inside core K k f && listed_sound core d k f)
  unfolding face_from_above leads_inside listed_sound down_sound leads_up
  face-both K h f =
      let n : ℕ = neighbour_of (core k) f in
      either (ltb k n) (λ e. rw e (sym (and-true (ltb n K)))) (λ e. rw (e, lt-ltb n K (omega tests)))

  -- a check in two passes over the faces
  pub faces_both : (K : ℕ) → k < K → (n : ℕ) → all_below n (face_from_above core d K k) ≡ (all_below n (leads_inside core K k) && all_below n (listed_sound core d k))
  faces_both K h n =
      all_same n (face_from_above core d K k) (λ f. leads_inside core K k f && listed_sound core d k f) (λ f l. face-both K h f) ∙ all_and n (leads_inside core K k) (listed_sound core d k)
