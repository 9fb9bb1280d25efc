-- Laws of the loops over the numbers below n.
use Prim.Native.Nat.{ℕ, zero, suc, ◌+◌, ◌-◌, ◌*◌, ◌≤◌, ◌<◌, min}
use native.Mathlib.Nat.{add-zero, add-suc, add_assoc, suc-mul, sub-zero, le_refl, le_of_lt, le_of_eq}
use native.Mathlib.Numerals.{add-one}
use native.Mathlib.Omega.{arith}
use mathlib.Core.Path.{◌≡◌, refl, sym, ap, ap₂, ◌∙◌}
use mathlib.Core.Bool.{Bool, true, false, cond, not, ◌&&◌, ◌||◌, false≢true, and-true, and-false, and_assoc, or_assoc, or-false, and-or_distrib_right, not-not}
use mathlib.Core.List.{List, [], ◌∷◌, ◌++◌}
use lib.ListN.{length, get_or, length-append, get_or-append}
use lib.Seq.{get_or_at}
use lib.Dec.{eqb, leb, ltb, leb-zero}
use borrow.Author.Tests.{ltb-true, ltb-false, leb-true, leb-false, eqb-true, lt-ltb, le-ltb, eq-eqb}
use Rattle.encoding.specs.Below.{all_below, any_below, count_below, least_below, sum_below, kept_below, member}

-- linear arithmetic that also reads tests of numbers: `omega tests`
pub ruleset tests = (arith, ltb-true, ltb-false, leb-true, leb-false, eqb-true)

-- a test is true or false
pub either : {C : Type 0} (b : Bool) → (b ≡ true → C) → (b ≡ false → C) → C
either true t f = t refl
either false t f = f refl

-- no test is both
pub clash : {C : Type 0} {b : Bool} → b ≡ true → b ≡ false → C
clash t f = absurd (false≢true (sym f ∙ t))

-- where both pass, the first does
pub and_fst : (a b : Bool) → (a && b) ≡ true → a ≡ true
and_fst true b e = refl
and_fst false b e = e

-- where both pass, the second does
pub and_snd : (a b : Bool) → (a && b) ≡ true → b ≡ true
and_snd true b e = e
and_snd false b e = clash e refl

-- where each of two passes, both do
pub and_intro : (a b : Bool) → a ≡ true → b ≡ true → (a && b) ≡ true
and_intro a b p q = rw (p, q)

-- tests that follow from each other are equal
pub iff_eq : (a b : Bool) → (a ≡ true → b ≡ true) → (b ≡ true → a ≡ true) → a ≡ b
iff_eq true b f g = sym (f refl)
iff_eq false true f g = g refl
iff_eq false false f g = refl

-- a number below n + 1 is below n, or is n
pub below_suc : {C : Type 0} (i n : ℕ) → i < suc n → (i < n → C) → (i ≡ n → C) → C
below_suc i n h lt eq = either (ltb i n) (λ p. lt (omega tests)) (λ p. eq (omega tests))

-- a loop gives the same for functions that agree below its bound
same : {A B : Type 0} (F : ℕ → (ℕ → A) → B) (step : ℕ → B → A → B) → ((f g : ℕ → A) → F 0 f ≡ F 0 g) → ((n : ℕ) (f : ℕ → A) → F (suc n) f ≡ step n (F n f) (f n))
    → (n : ℕ) (f g : ℕ → A) → ((i : ℕ) → i < n → f i ≡ g i) → F n f ≡ F n g
same F step z s zero f g h = z f g
same F step z s (suc n) f g h = s n f ∙ ap₂ (step n) (same F step z s n f g (λ i p. h i (omega arith))) (h n (le_refl (suc n))) ∙ sym (s n g)

-- ---- all

-- where all pass, each does
pub all_at : (n : ℕ) (f : ℕ → Bool) → all_below n f ≡ true → (i : ℕ) → i < n → f i ≡ true
unfolding all_below
all_at zero f e i h = absurd (omega arith)
all_at (suc n) f e i h = below_suc i n h (all_at n f (and_fst (all_below n f) (f n) e) i) (λ q. rw q (and_snd (all_below n f) (f n) e))

-- where each passes, all do
pub all_intro : (n : ℕ) (f : ℕ → Bool) → ((i : ℕ) → i < n → f i ≡ true) → all_below n f ≡ true
unfolding all_below
all_intro zero f h = refl
all_intro (suc n) f h = and_intro (all_below n f) (f n) (all_intro n f (λ i p. h i (omega arith))) (h n (le_refl (suc n)))

-- one more turn of the loop
pub all_more : (i : ℕ) (f : ℕ → Bool) → all_below i f ≡ true → f i ≡ true → all_below (i + 1) f ≡ true
unfolding all_below
all_more i f a e = rw add-one (and_intro (all_below i f) (f i) a e)

-- one that fails makes all fail
pub all_fails : (n : ℕ) (f : ℕ → Bool) (i : ℕ) → i < n → f i ≡ false → all_below n f ≡ false
all_fails n f i h e = either (all_below n f) (λ p. clash (all_at n f p i h) e) (λ p. p)

-- a loop that has come to its bound
pub all_to : (n : ℕ) (f : ℕ → Bool) (i : ℕ) → i ≤ n → n ≤ i → all_below i f ≡ true → all_below n f ≡ true
all_to n f i p q a = let e : n ≡ i = omega arith in rw e a

-- tests that agree below n
pub all_same : (n : ℕ) (f g : ℕ → Bool) → ((i : ℕ) → i < n → f i ≡ g i) → all_below n f ≡ all_below n g
unfolding all_below
all_same = same all_below (λ n a b. a && b) (λ f g. refl) (λ n f. refl)

-- all of m + n: the first m, and the n behind them
pub all_add : (m n : ℕ) (f : ℕ → Bool) → all_below (m + n) f ≡ (all_below m f && all_below n (λ i. f (m + i)))
unfolding all_below
all_add m zero f = rw (add-zero, and-true)
all_add m (suc n) f = rw (add-suc, all_add m n f, and_assoc)

-- two loops in one
pub all_and : (n : ℕ) (f g : ℕ → Bool) → all_below n (λ i. f i && g i) ≡ (all_below n f && all_below n g)
all_and n f g =
    iff_eq (all_below n (λ i. f i && g i)) (all_below n f && all_below n g)
    (λ h. and_intro (all_below n f) (all_below n g) (all_intro n f (λ i l. and_fst (f i) (g i) (all_at n (λ j. f j && g j) h i l))) (all_intro n g (λ i l. and_snd (f i) (g i) (all_at n (λ j. f j && g j) h i l))))
    (λ h. all_intro n (λ i. f i && g i) (λ i l. and_intro (f i) (g i) (all_at n f (and_fst (all_below n f) (all_below n g) h) i l) (all_at n g (and_snd (all_below n f) (all_below n g) h) i l)))

-- ---- any

de_morgan : (a b : Bool) → (not a || b) ≡ not (a && not b)
de_morgan true b = sym (not-not b)
de_morgan false b = refl

-- some pass unless all fail
pub any_not : (n : ℕ) (f : ℕ → Bool) → any_below n f ≡ not (all_below n (λ i. not (f i)))
unfolding any_below all_below
any_not zero f = refl
any_not (suc n) f = rw (any_not n f) (de_morgan (all_below n (λ i. not (f i))) (f n))

-- one that passes
pub any_intro : (n : ℕ) (f : ℕ → Bool) (i : ℕ) → i < n → f i ≡ true → any_below n f ≡ true
any_intro n f i h e = rw (any_not n f, all_fails n (λ i. not (f i)) i h (rw e))

-- where each fails, none passes
pub any_none : (n : ℕ) (f : ℕ → Bool) → ((i : ℕ) → i < n → f i ≡ false) → any_below n f ≡ false
any_none n f h = rw (any_not n f, all_intro n (λ i. not (f i)) (λ i p. rw (h i p)))

-- where none passes, each fails
pub any_false : (n : ℕ) (f : ℕ → Bool) → any_below n f ≡ false → (i : ℕ) → i < n → f i ≡ false
any_false n f e i h = either (f i) (λ p. clash (any_intro n f i h p) e) (λ p. p)

-- tests that agree below n
pub any_same : (n : ℕ) (f g : ℕ → Bool) → ((i : ℕ) → i < n → f i ≡ g i) → any_below n f ≡ any_below n g
unfolding any_below
any_same = same any_below (λ n a b. a || b) (λ f g. refl) (λ n f. refl)

-- ---- sum

-- one more turn of the loop
pub sum_more : (n : ℕ) (g : ℕ → ℕ) → sum_below (n + 1) g ≡ sum_below n g + g n
unfolding sum_below
sum_more n g = rw add-one

-- numbers that agree below n
pub sum_same : (n : ℕ) (f g : ℕ → ℕ) → ((i : ℕ) → i < n → f i ≡ g i) → sum_below n f ≡ sum_below n g
unfolding sum_below
sum_same = same sum_below (λ n a b. a + b) (λ f g. refl) (λ n f. refl)

-- a longer sum is no less
pub sum_mono : (m n : ℕ) (g : ℕ → ℕ) → m ≤ n → sum_below m g ≤ sum_below n g
unfolding sum_below
sum_mono m zero g h = let e : m ≡ 0 = omega arith in rw e (le_refl 0)
sum_mono m (suc n) g h = below_suc m (suc n) (omega arith) (λ p. omega (arith, sum_mono m n g (omega arith))) (λ e. rw e (le_refl (sum_below (suc n) g)))

-- a longer sum of positive numbers is more
pub sum_strict : (m n : ℕ) (g : ℕ → ℕ) → m < n → ((i : ℕ) → i < n → 0 < g i) → sum_below m g < sum_below n g
unfolding sum_below
sum_strict m zero g h p = absurd (omega arith)
sum_strict m (suc n) g h p = omega (arith, sum_mono m n g (omega arith), p n (le_refl (suc n)))

-- n numbers of at most b
pub sum_le : (n : ℕ) (g : ℕ → ℕ) (b : ℕ) → ((i : ℕ) → i < n → g i ≤ b) → sum_below n g ≤ n * b
unfolding sum_below
sum_le zero g b h = omega arith
sum_le (suc n) g b h = rw suc-mul (omega (arith, sum_le n g b (λ i p. h i (omega arith)), h n (le_refl (suc n))))

-- no numbers but 0
pub sum_none : (n : ℕ) → sum_below n (λ i. 0) ≡ 0
unfolding sum_below
sum_none zero = refl
sum_none (suc n) = rw (sum_none n)

-- the sum of sums
pub sum_plus : (n : ℕ) (f g : ℕ → ℕ) → sum_below n (λ i. f i + g i) ≡ sum_below n f + sum_below n g
unfolding sum_below
sum_plus zero f g = refl
sum_plus (suc n) f g = let r = sum_plus n f g in omega arith

-- of m + n: the first m, and the n behind them
pub sum_add : (m n : ℕ) (g : ℕ → ℕ) → sum_below (m + n) g ≡ sum_below m g + sum_below n (λ i. g (m + i))
unfolding sum_below
sum_add m zero g = rw (add-zero, add-zero)
sum_add m (suc n) g = rw (add-suc, sum_add m n g, add_assoc)

-- a table of numbers has one sum, by rows and by columns
pub sum_swap : (m n : ℕ) (g : ℕ → ℕ → ℕ) → sum_below m (λ i. sum_below n (g i)) ≡ sum_below n (λ j. sum_below m (λ i. g i j))
unfolding sum_below
sum_swap zero n g = sym (sum_none n)
sum_swap (suc m) n g = ap (λ s. s + sum_below n (g m)) (sum_swap m n g) ∙ sym (sum_plus n (λ j. sum_below m (λ i. g i j)) (g m))

-- ---- count

-- to count is to add ones
pub sum_count : (n : ℕ) (f : ℕ → Bool) → count_below n f ≡ sum_below n (λ i. cond (f i) 1 0)
unfolding count_below sum_below
sum_count zero f = refl
sum_count (suc n) f = rw (sum_count n f)

-- one more turn of the loop
pub count_more : (n : ℕ) (f : ℕ → Bool) → count_below (n + 1) f ≡ count_below n f + cond (f n) 1 0
unfolding count_below
count_more n f = rw add-one

-- tests that agree below n
pub count_same : (n : ℕ) (f g : ℕ → Bool) → ((i : ℕ) → i < n → f i ≡ g i) → count_below n f ≡ count_below n g
unfolding count_below
count_same = same count_below (λ n c b. c + cond b 1 0) (λ f g. refl) (λ n f. refl)

-- of n at most n pass
pub count_le : (n : ℕ) (f : ℕ → Bool) → count_below n f ≤ n
count_le n f = rw (sum_count n f) (omega (arith, sum_le n (λ i. cond (f i) 1 0) 1 (λ i p. either (f i) (λ e. rw e (le_refl 1)) (λ e. rw e (omega arith)))))

-- of more, no fewer pass
pub count_mono : (m n : ℕ) (f : ℕ → Bool) → m ≤ n → count_below m f ≤ count_below n f
count_mono m n f h = rw (sum_count m f, sum_count n f) (sum_mono m n (λ i. cond (f i) 1 0) h)

-- one that passes counts
pub count_lt : (k n : ℕ) (f : ℕ → Bool) → k < n → f k ≡ true → count_below k f < count_below n f
count_lt k n f h e = omega (arith, count_mono (k + 1) n f (omega arith), rw e at (count_more k f))

-- where none is counted, each fails
pub count_zero : (n : ℕ) (f : ℕ → Bool) → count_below n f ≡ 0 → (i : ℕ) → i < n → f i ≡ false
count_zero n f e i h = either (f i) (λ p. absurd (omega (arith, count_lt i n f h p))) (λ p. p)

-- the part of the range from a to b that lies below n grows by one within the range
seen_more : (n a b : ℕ) (p q : Bool) → leb a n ≡ p → ltb n b ≡ q → min n b - min n a + cond (p && q) 1 0 ≡ min (suc n) b - min (suc n) a
seen_more n a b true true e k = omega tests
seen_more n a b true false e k = omega tests
seen_more n a b false q e k = omega tests

-- the range's numbers below n
count_seen : (n : ℕ) (f : ℕ → Bool) (a b : ℕ) → ((i : ℕ) → i < n → f i ≡ (leb a i && ltb i b)) → count_below n f ≡ min n b - min n a
unfolding count_below
count_seen zero f a b t = omega arith
count_seen (suc n) f a b t = rw (count_seen n f a b (λ i p. t i (omega arith)), t n (le_refl (suc n))) (seen_more n a b (leb a n) (ltb n b) refl refl)

-- those from a to b
pub count_range : (n : ℕ) (f : ℕ → Bool) (a b : ℕ) → a ≤ b → b ≤ n → ((i : ℕ) → i < n → f i ≡ (leb a i && ltb i b)) → count_below n f ≡ b - a
count_range n f a b h k t = omega (arith, count_seen n f a b t)

-- the first m and no others
pub count_initial : (n : ℕ) (f : ℕ → Bool) (m : ℕ) → m ≤ n → ((i : ℕ) → i < m → f i ≡ true) → ((i : ℕ) → m ≤ i → i < n → f i ≡ false) → count_below n f ≡ m
count_initial n f m h t e =
    count_range n f 0 m (omega arith) h (λ i p. rw (leb-zero i) (either (ltb i m) (λ q. rw q (t i (omega tests))) (λ q. rw q (e i (omega tests) p)))) ∙ sub-zero m

-- where each fails, none is counted
pub count_none : (n : ℕ) (f : ℕ → Bool) → ((i : ℕ) → i < n → f i ≡ false) → count_below n f ≡ 0
count_none n f h = count_initial n f 0 (omega arith) (λ i p. absurd (omega arith)) (λ i q. h i)

-- of m + n: those of the first m, and of the n behind them
pub count_add : (m n : ℕ) (f : ℕ → Bool) → count_below (m + n) f ≡ count_below m f + count_below n (λ i. f (m + i))
unfolding count_below
count_add m zero f = rw (add-zero, add-zero)
count_add m (suc n) f = rw (add-suc, count_add m n f, add_assoc)

-- of w, those of the first c
pub count_first : (w c : ℕ) (f : ℕ → Bool) → c ≤ w → count_below w (λ i. ltb i c && f i) ≡ count_below c f
count_first w c f h =
    let e : w ≡ c + (w - c) = omega arith in
    ap (λ (m : ℕ). count_below m (λ i. ltb i c && f i)) e
    ∙ count_add c (w - c) (λ i. ltb i c && f i)
    ∙ ap₂ (λ (x y : ℕ). x + y) (count_same c (λ i. ltb i c && f i) f (λ i l. rw (lt-ltb i c l))) (count_none (w - c) (λ i. ltb (c + i) c && f (c + i)) (λ i l. rw (le-ltb (c + i) c (omega arith))))
    ∙ add-zero (count_below c f)

-- the pairs that pass, by rows and by columns
pub count_swap : (m n : ℕ) (f : ℕ → ℕ → Bool) → sum_below m (λ i. count_below n (f i)) ≡ sum_below n (λ j. count_below m (λ i. f i j))
count_swap m n f =
    sum_same m (λ i. count_below n (f i)) (λ i. sum_below n (λ j. cond (f i j) 1 0)) (λ i l. sum_count n (f i))
    ∙ sum_swap m n (λ i j. cond (f i j) 1 0)
    ∙ sym (sum_same n (λ j. count_below m (λ i. f i j)) (λ j. sum_below m (λ i. cond (f i j) 1 0)) (λ j l. sum_count m (λ i. f i j)))

bit_or : (a b : Bool) → cond {A = ℕ} (a || b) 1 0 ≤ cond a 1 0 + cond b 1 0
bit_or true b = omega arith
bit_or false b = omega arith

-- what passes one of two tests is counted by one of them
pub count_or : (n : ℕ) (f g : ℕ → Bool) → count_below n (λ i. f i || g i) ≤ count_below n f + count_below n g
unfolding count_below
count_or zero f g = omega arith
count_or (suc n) f g = omega (arith, count_or n f g, bit_or (f n) (g n))

-- ---- least

-- where none passes, the least is the bound
pub least_none : (n : ℕ) (f : ℕ → Bool) → any_below n f ≡ false → least_below n f ≡ n
unfolding least_below
least_none zero f e = refl
least_none (suc n) f e =
    let none = any_false (suc n) f e in
    rw (any_none n f (λ i p. none i (omega arith)), none n (le_refl (suc n)))

-- where one passes, the least is below the bound and passes
least_found : (n : ℕ) (f : ℕ → Bool) → any_below n f ≡ true → (least_below n f < n) × (f (least_below n f) ≡ true)
unfolding least_below any_below
least_found zero f e = clash e refl
least_found (suc n) f e =
    either (any_below n f)
    (λ p. let l = least_found n f p in rw p (omega (arith, l.0), l.1))
    (λ p. let q : f n ≡ true = rw p at e in rw (p, q) (le_refl (suc n), q))

-- the least that passes is below the bound
pub least_lt : (n : ℕ) (f : ℕ → Bool) → any_below n f ≡ true → least_below n f < n
least_lt n f e = (least_found n f e).0

-- the least that passes does pass
pub least_at : (n : ℕ) (f : ℕ → Bool) → any_below n f ≡ true → f (least_below n f) ≡ true
least_at n f e = (least_found n f e).1

-- where some pass, one does
pub any_at : (n : ℕ) (f : ℕ → Bool) → any_below n f ≡ true → (i : ℕ) × (i < n) × (f i ≡ true)
any_at n f e = (least_below n f, least_lt n f e, least_at n f e)

-- the least is at most the bound
pub least_le : (n : ℕ) (f : ℕ → Bool) → least_below n f ≤ n
least_le n f = either (any_below n f) (λ p. le_of_lt (least_lt n f p)) (λ p. le_of_eq (least_none n f p))

-- one that passes is not below the least
pub least_min : (n : ℕ) (f : ℕ → Bool) (i : ℕ) → i < n → f i ≡ true → least_below n f ≤ i
unfolding least_below
least_min zero f i h e = absurd (omega arith)
least_min (suc n) f i h e =
    below_suc i n h (λ p. rw (any_intro n f i p e) (least_min n f i p e)) (λ q. omega (arith, least_lt (suc n) f (any_intro (suc n) f i h e)))

-- each below the least fails
pub least_below_lem : (n : ℕ) (f : ℕ → Bool) (i : ℕ) → i < least_below n f → f i ≡ false
least_below_lem n f i h = either (f i) (λ p. absurd (omega (arith, least_min n f i (omega (arith, least_le n f)) p))) (λ p. p)

-- one that passes where all before it fail is the least
pub least_is : (n : ℕ) (f : ℕ → Bool) (i : ℕ) → i < n → f i ≡ true → ((j : ℕ) → j < i → f j ≡ false) → least_below n f ≡ i
least_is n f i h e m = below_suc (least_below n f) i (omega (arith, least_min n f i h e)) (λ p. clash (least_at n f (any_intro n f i h e)) (m (least_below n f) p)) (λ q. q)

-- tests that agree below n
pub least_same : (n : ℕ) (f g : ℕ → Bool) → ((i : ℕ) → i < n → f i ≡ g i) → least_below n f ≡ least_below n g
unfolding least_below
least_same zero f g h = refl
least_same (suc n) f g h =
    let k : (i : ℕ) → i < n → f i ≡ g i = λ i p. h i (omega arith) in
    rw (any_same n f g k, least_same n f g k, h n (le_refl (suc n)))

-- ---- kept

-- one more turn of the loop
pub kept_more : (n : ℕ) (f : ℕ → Bool) → kept_below (n + 1) f ≡ kept_below n f ++ cond (f n) (n ∷ []) []
unfolding kept_below
kept_more n f = rw add-one

-- tests that agree below n
pub kept_same : (n : ℕ) (f g : ℕ → Bool) → ((i : ℕ) → i < n → f i ≡ g i) → kept_below n f ≡ kept_below n g
unfolding kept_below
kept_same = same kept_below (λ n l b. l ++ cond b (n ∷ []) []) (λ f g. refl) (λ n f. refl)

length_one : (b : Bool) (n : ℕ) → length (cond b (n ∷ []) []) ≡ cond b 1 0
length_one true n = refl
length_one false n = refl

-- as many as are counted
pub kept_length : (n : ℕ) (f : ℕ → Bool) → length (kept_below n f) ≡ count_below n f
unfolding kept_below count_below
kept_length zero f = refl
kept_length (suc n) f = rw (length-append, kept_length n f, length_one)

-- what is in either part of a list is in it
pub member_append : (k : ℕ) (xs ys : List ℕ) → member k (xs ++ ys) ≡ (member k xs || member k ys)
unfolding member
member_append k [] ys = refl
member_append k (x ∷ xs) ys = rw (member_append k xs ys, or_assoc)

member_one : (k n : ℕ) (b : Bool) → member k (cond b (n ∷ []) []) ≡ (eqb k n && b)
unfolding member
member_one k n true = rw (or-false, and-true)
member_one k n false = rw and-false

eqb_swap : (k n : ℕ) (f : ℕ → Bool) → (eqb k n && f n) ≡ (eqb k n && f k)
eqb_swap k n f = either (eqb k n) (λ p. rw (eqb-true k n p)) (λ p. rw p)

ltb_suc : (k n : ℕ) → ltb k (suc n) ≡ (ltb k n || eqb k n)
ltb_suc k n =
    either (ltb k n)
    (λ p. rw p (lt-ltb k (suc n) (omega tests)))
    (λ p. rw p (iff_eq (ltb k (suc n)) (eqb k n) (λ q. eq-eqb k n (omega tests)) (λ q. lt-ltb k (suc n) (omega tests))))

-- the numbers below n that pass
pub kept_member : (n : ℕ) (f : ℕ → Bool) (k : ℕ) → member k (kept_below n f) ≡ (ltb k n && f k)
unfolding kept_below member
kept_member zero f k = rw (le-ltb k 0 (omega arith))
kept_member (suc n) f k = rw (member_append, kept_member n f k, member_one, eqb_swap k n f, ltb_suc, and-or_distrib_right)

-- the place of a number that is kept is the count below it
pub kept_at : (n : ℕ) (f : ℕ → Bool) (k : ℕ) → k < n → f k ≡ true → (d : ℕ) → get_or (kept_below n f) (count_below k f) d ≡ k
unfolding kept_below
kept_at zero f k h e d = absurd (omega arith)
kept_at (suc n) f k h e d =
    below_suc k n h
    (λ p. get_or-append (kept_below n f) (cond (f n) (n ∷ []) []) d (count_below k f) (rw (kept_length n f) (count_lt k n f p e)) ∙ kept_at n f k p e d)
    (λ q. let t : f n ≡ true = rw q at e in rw (q, t) (get_or_at (kept_below n f) n [] d (count_below n f) (kept_length n f)))

-- of more than j that pass, some number is the one with j before it
count_found : (n : ℕ) (f : ℕ → Bool) (j : ℕ) → j < count_below n f → (k : ℕ) × (k < n) × (f k ≡ true) × (count_below k f ≡ j)
unfolding count_below
count_found zero f j h = absurd (omega arith)
count_found (suc n) f j h =
    either (ltb j (count_below n f))
    (λ p. let r = count_found n f j (omega tests) in (r.0, omega arith, r.2, r.3))
    (λ p. let q : f n ≡ true = either (f n) (λ t. t) (λ t. absurd (omega (tests, rw t at h))) in (n, le_refl (suc n), q, omega (tests, rw q at h)))

-- element j passes, and j numbers before it do
pub kept_found : (n : ℕ) (f : ℕ → Bool) (j d : ℕ) → j < count_below n f
    → (get_or (kept_below n f) j d < n) × (f (get_or (kept_below n f) j d) ≡ true) × (count_below (get_or (kept_below n f) j d) f ≡ j)
kept_found n f j d h =
    let r = count_found n f j h in
    let e : get_or (kept_below n f) j d ≡ r.0 = rw r.3 at (kept_at n f r.0 r.1 r.2 d) in
    rw e (r.1, r.2, r.3)

-- in ascending order
pub kept_ascends : (n : ℕ) (f : ℕ → Bool) (i j d : ℕ) → i < j → j < count_below n f → get_or (kept_below n f) i d < get_or (kept_below n f) j d
kept_ascends n f i j d h k =
    let a = get_or (kept_below n f) i d in
    let b = get_or (kept_below n f) j d in
    either (ltb a b) (ltb-true a b)
    (λ p. absurd (omega (arith, count_mono b a f (omega tests), kept_found n f i d (omega arith), kept_found n f j d k)))

-- ---- counting by value

sum_one : (n v : ℕ) → v < n → sum_below n (λ b. cond (eqb v b) 1 0) ≡ 1
unfolding sum_below
sum_one zero v h = absurd (omega arith)
sum_one (suc n) v h =
    below_suc v n h
    (λ p. either (eqb v n) (λ e. absurd (omega tests)) (λ e. rw (e, sum_one n v p)))
    (λ q.
    let z : sum_below n (λ b. cond (eqb v b) 1 0) ≡ 0 =
    sum_same n (λ b. cond (eqb v b) 1 0) (λ b. 0) (λ b l. either (eqb v b) (λ e. absurd (omega tests)) (λ e. rw e)) ∙ sum_none n in
    rw (z, eq-eqb v n q))

sum_where : (n v : ℕ) → v < n → (c : Bool) → sum_below n (λ b. cond (c && eqb v b) 1 0) ≡ cond c 1 0
sum_where n v h true = sum_one n v h
sum_where n v h false = sum_none n

-- where every value is below m, the numbers that pass are those that pass with value 0, with value 1, ..
pub count_by_value : (n m : ℕ) (f : ℕ → Bool) (value : ℕ → ℕ) → ((i : ℕ) → i < n → value i < m) → count_below n f ≡ sum_below m (λ b. count_below n (λ i. f i && eqb (value i) b))
unfolding count_below
count_by_value zero m f value h = sym (sum_none m)
count_by_value (suc n) m f value h =
    ap₂ (λ (x y : ℕ). x + y) (count_by_value n m f value (λ i l. h i (omega arith))) (sym (sum_where m (value n) (h n (le_refl (suc n))) (f n)))
    ∙ sym (sum_plus m (λ b. count_below n (λ i. f i && eqb (value i) b)) (λ b. cond (f n && eqb (value n) b) 1 0))
