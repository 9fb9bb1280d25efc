-- Laws of the test of a range, and of counts and sums over ranges and pairs.
use Prim.Native.Nat.{ℕ, zero, suc, ◌+◌, ◌-◌, ◌*◌, ◌≤◌, ◌<◌}
use native.Mathlib.Nat.{le_refl}
use native.Mathlib.Omega.{arith}
use mathlib.Core.Path.{◌≡◌, ◌∙◌}
use mathlib.Core.Bool.{Bool, true, false, ◌&&◌, ◌||◌}
use lib.Dec.{leb, ltb}
use borrow.Author.Tests.{ltb-true, leb-true, lt-ltb, le-leb}
use Rattle.encoding.specs.Below.{any_below, least_below, count_below, sum_below}
use Rattle.encoding.proofs.Below.{tests, either, and_fst, and_snd, and_intro, any_intro, any_none, least_is, count_range, count_none, count_or, count_swap, sum_plus, sum_le}

-- a number that passes is in the range
pub range_true : (a b k : ℕ) → (leb a k && ltb k b) ≡ true → (a ≤ k) × (k < b)
range_true a b k e = (leb-true a k (and_fst (leb a k) (ltb k b) e), ltb-true k b (and_snd (leb a k) (ltb k b) e))

-- a number in the range passes
pub range_in : (a b k : ℕ) → a ≤ k → k < b → (leb a k && ltb k b) ≡ true
range_in a b k l h = and_intro (leb a k) (ltb k b) (le-leb a k l) (lt-ltb k b h)

-- a number outside the range fails
pub range_out : (a b k : ℕ) → (a ≤ k → b ≤ k) → (leb a k && ltb k b) ≡ false
range_out a b k h = either (leb a k && ltb k b) (λ e. let r = range_true a b k e in absurd (omega (arith, h r.0, r.1))) (λ e. e)

-- a test below n that is the test of a range from a to b
module _ (n : ℕ) (f : ℕ → Bool) (a b : ℕ) (u : b ≤ n) (t : (i : ℕ) → i < n → f i ≡ (leb a i && ltb i b)) where
  inside : (i : ℕ) → a ≤ i → i < b → f i ≡ true
  inside i l h = t i (omega arith) ∙ range_in a b i l h

  outside : (i : ℕ) → i < n → (a ≤ i → b ≤ i) → f i ≡ false
  outside i h o = t i h ∙ range_out a b i o

  -- some pass where the range has numbers
  pub any_span : any_below n f ≡ ltb a b
  any_span =
      either (ltb a b)
      (λ e. rw e (any_intro n f a (omega tests) (inside a (le_refl a) (omega tests))))
      (λ e. rw e (any_none n f (λ i h. outside i h (λ l. omega tests))))

  -- as many as it has
  pub count_span : count_below n f ≡ b - a
  count_span =
      either (leb a b)
      (λ e. count_range n f a b (omega tests) u t)
      (λ e. count_none n f (λ i h. outside i h (λ l. omega tests)) ∙ omega tests)

  -- its first number is the least
  pub least_span : a < b → least_below n f ≡ a
  least_span l = least_is n f a (omega arith) (inside a (le_refl a) l) (λ j h. outside j (omega arith) (λ m. omega arith))

-- ---- pairs

-- of a test that no two numbers pass, at most one passes
pub count_one : (n : ℕ) (f : ℕ → Bool) → ((i j : ℕ) → i < j → j < n → f i ≡ true → f j ≡ true → ⊥) → count_below n f ≤ 1
unfolding count_below
count_one zero f h = omega arith
count_one (suc n) f h =
    either (f n)
    (λ e. rw (e, count_none n f (λ i l. either (f i) (λ d. absurd (h i n l (le_refl (suc n)) d e)) (λ d. d))) (omega arith))
    (λ e. rw e (omega (arith, count_one n f (λ i j l m. h i j l (omega arith)))))

-- what passes a test that follows counts there too
pub count_imp : (n : ℕ) (f g : ℕ → Bool) → ((i : ℕ) → i < n → f i ≡ true → g i ≡ true) → count_below n f ≤ count_below n g
unfolding count_below
count_imp zero f g h = omega arith
count_imp (suc n) f g h =
    let r = count_imp n f g (λ i l. h i (omega arith)) in
    either (f n)
    (λ e. rw (e, h n (le_refl (suc n)) e) (omega arith))
    (λ e. rw e (omega arith))

-- a sum of numbers that are no greater
pub sum_imp : (n : ℕ) (f g : ℕ → ℕ) → ((i : ℕ) → i < n → f i ≤ g i) → sum_below n f ≤ sum_below n g
unfolding sum_below
sum_imp zero f g h = omega arith
sum_imp (suc n) f g h = omega (arith, sum_imp n f g (λ i l. h i (omega arith)), h n (le_refl (suc n)))

-- pairs that pass one of three tests, of which a row passes the first once, a column the second, a row the third
pub pairs_three : (n : ℕ) (f a b c : ℕ → ℕ → Bool) → ((i j : ℕ) → i < n → j < n → f i j ≡ true → (a i j || (b i j || c i j)) ≡ true)
    → ((i : ℕ) → i < n → count_below n (a i) ≤ 1) → ((j : ℕ) → j < n → count_below n (λ i. b i j) ≤ 1) → ((i : ℕ) → i < n → count_below n (c i) ≤ 1)
    → sum_below n (λ i. count_below n (f i)) ≤ 3 * n
pairs_three n f a b c h x y z =
    let s = sum_imp n (λ i. count_below n (f i)) (λ i. count_below n (a i) + (count_below n (b i) + count_below n (c i)))
    (λ i l. omega (arith, count_imp n (f i) (λ j. a i j || (b i j || c i j)) (λ j m. h i j l m), count_or n (a i) (λ j. b i j || c i j), count_or n (b i) (c i))) in
    let u = sum_plus n (λ i. count_below n (a i)) (λ i. count_below n (b i) + count_below n (c i)) in
    let v = sum_plus n (λ i. count_below n (b i)) (λ i. count_below n (c i)) in
    omega (arith, sum_le n (λ i. count_below n (a i)) 1 x, count_swap n n b, sum_le n (λ j. count_below n (λ i. b i j)) 1 y, sum_le n (λ i. count_below n (c i)) 1 z)
