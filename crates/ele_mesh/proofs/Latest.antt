-- The greatest number below n that passes a test.
use Prim.Native.Nat.{ℕ, zero, suc, ◌+◌, ◌≤◌, ◌<◌}
use mathlib.Core.Path.{◌≡◌, refl}
use mathlib.Core.Bool.{Bool, true, false, not, ◌&&◌, ◌||◌}
use native.Mathlib.Nat.{add-zero}
use native.Mathlib.Omega.{arith}
use lib.Dec.{leb}
use borrow.Author.Tests.{lt-leb}
use Rattle.encoding.specs.Below.{any_below, count_below}
use Rattle.encoding.proofs.Below.{either, clash, below_suc, any_at, any_none, any_false, count_none, count_lt}
use Rattle.ele_faces.specs.Faces.{latest_below}

pub latest_most : (n : ℕ) (p : ℕ → Bool) → latest_below n p ≤ n
unfolding latest_below
latest_most zero p = omega arith
latest_most (suc n) p = either (p n) (λ e. rw e (omega arith)) (λ e. rw e (omega (arith, latest_most n p)))

pub latest_passes : (n : ℕ) (p : ℕ → Bool) (c : ℕ) → latest_below n p ≡ suc c → p c ≡ true
unfolding latest_below
latest_passes zero p c e = absurd (omega arith)
latest_passes (suc n) p c e =
    either (p n)
    (λ q. let z : suc n ≡ suc c = rw q at e in let y : c ≡ n = omega arith in rw y q)
    (λ q. latest_passes n p c (rw q at e))

pub latest_least : (n : ℕ) (p : ℕ → Bool) (c : ℕ) → c < n → p c ≡ true → c < latest_below n p
unfolding latest_below
latest_least zero p c h e = absurd (omega arith)
latest_least (suc n) p c h e =
    either (p n)
    (λ q. rw q (omega arith))
    (λ q. below_suc c n h (λ l. rw q (latest_least n p c l e)) (λ y. clash e (rw y q)))

-- a test that implies another is found among those that pass the other
module _ (p q : ℕ → Bool) where
  pub latest_through : (n : ℕ) → ((i : ℕ) → p i ≡ true → q i ≡ true) → latest_below n p ≡ latest_below (latest_below n q) p
  unfolding latest_below
  latest_through zero h = refl
  latest_through (suc n) h =
      either (q n)
      (λ e. rw e)
      (λ e. either (p n) (λ f. clash (h n f) e) (λ f. rw (e, f) (latest_through n h)))

  pub count_through : (n : ℕ) → ((i : ℕ) → p i ≡ true → q i ≡ true) → count_below n p ≡ count_below (latest_below n q) p
  unfolding latest_below count_below
  count_through zero h = refl
  count_through (suc n) h =
      either (q n)
      (λ e. rw e)
      (λ e. either (p n) (λ f. clash (h n f) e) (λ f. rw (e, f) (omega (arith, count_through n h))))

-- at most one passes exactly where no two do
pub two_count : (n : ℕ) (p : ℕ → Bool) → leb (count_below n p) 1 ≡ not (any_below n (λ g. p g && any_below g p))
unfolding count_below any_below
two_count zero p = refl
two_count (suc n) p =
    either (p n)
    (λ e. either (any_below n p)
    (λ a. rw (e, a, or_true (any_below n (λ g. p g && any_below g p))) (lt-leb (count_below n p + 1) 1 (omega (arith, more a))))
    (λ a. rw (e, a, none a, count_none n p (any_false n p a))))
    (λ e. rw (e, or-false (any_below n (λ g. p g && any_below g p)), add-zero) (two_count n p))
  where
    or_true : (b : Bool) → (b || true) ≡ true
    or_true true = refl
    or_true false = refl

    or-false : (b : Bool) → (b || false) ≡ b
    or-false true = refl
    or-false false = refl

    more : any_below n p ≡ true → 0 < count_below n p
    more a = omega (arith, count_lt (any_at n p a).0 n p (any_at n p a).1 (any_at n p a).2)

    none : any_below n p ≡ false → any_below n (λ g. p g && any_below g p) ≡ false
    none a = any_none n (λ g. p g && any_below g p) (λ i l. rw (any_false n p a i l))
