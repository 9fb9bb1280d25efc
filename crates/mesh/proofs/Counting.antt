-- Counting: tests whose numbers are paired off are passed by equally many, and where equally many pass, each is one of a pair.
use Prim.Native.Nat.{ℕ, zero, suc, ◌+◌, ◌*◌, ◌≤◌, ◌<◌}
use native.Mathlib.Nat.{suc-mul, zero-mul, le_refl}
use native.Mathlib.Omega.{arith}
use mathlib.Core.Path.{◌≡◌, refl, sym, ap, ◌∙◌}
use mathlib.Core.Bool.{Bool, true, false, cond, not, ◌&&◌}
use lib.Dec.{eqb, leb, ltb}
use borrow.Author.Tests.{ltb-true, eqb-true, eq-eqb, lt-ltb, le-leb}
use Rattle.encoding.specs.Below.{count_below, sum_below}
use Rattle.encoding.proofs.Below.{tests, either, clash, and_fst, and_snd, and_intro, iff_eq, sum_same, sum_count, count_same, count_none, count_zero, count_range, count_add, count_first, count_by_value}

-- ---- pairs

-- t leads from each number that passes p to one that passes q, and back
abbrev pub Paired : ℕ → (ℕ → Bool) → (ℕ → Bool) → (ℕ → ℕ) → Type 0
Paired n p q t = (i : ℕ) → i < n → p i ≡ true → (t i < n) × (q (t i) ≡ true) × (t (t i) ≡ i)

module _ (n : ℕ) (p q : ℕ → Bool) (t : ℕ → ℕ) (there : Paired n p q t) where
  -- where t leads to
  abbrev to : ℕ → ℕ
  to i = cond (p i) (t i) 0

  to_below : (i : ℕ) → i < n → to i < n
  to_below i h = either (p i) (λ e. rw e (there i h e).0) (λ e. rw e (omega arith))

  abbrev leads : ℕ → ℕ → Bool
  leads b i = p i && eqb (to i) b

  leads-to : (b i : ℕ) → leads b i ≡ true → (p i ≡ true) × (t i ≡ b)
  leads-to b i e =
      let a : p i ≡ true = and_fst (p i) (eqb (to i) b) e in
      let s : eqb (to i) b ≡ true = and_snd (p i) (eqb (to i) b) e in
      (a, eqb-true (t i) b (rw a at s))

  module _ (back : Paired n q p t) where
    -- one leads to each that passes q
    one : (b : ℕ) → b < n → q b ≡ true → count_below n (leads b) ≡ 1
    one b h e =
        let s = back b h e in
        count_range n (leads b) (t b) (t b + 1) (omega arith) (omega (arith, s.0))
        (λ i l.
        iff_eq (leads b i) (leb (t b) i && ltb i (t b + 1))
        (λ w.
        let v = leads-to b i w in
        let same : t b ≡ i = sym (ap t v.1) ∙ (there i l v.0).2 in
        and_intro _ _ (le-leb (t b) i (omega arith)) (lt-ltb i (t b + 1) (omega arith)))
        (λ w.
        let same : i ≡ t b = omega (tests, and_fst (leb (t b) i) (ltb i (t b + 1)) w, and_snd (leb (t b) i) (ltb i (t b + 1)) w) in
        let passes : p i ≡ true = rw same s.1 in
        and_intro (p i) (eqb (to i) b) passes (rw passes (eq-eqb (t i) b (ap t same ∙ s.2)))))
        ∙ omega arith

    -- and none to any other
    none : (b : ℕ) → b < n → q b ≡ false → count_below n (leads b) ≡ 0
    none b h e =
        count_none n (leads b)
        (λ i l. either (leads b i) (λ w. let v = leads-to b i w in let passes : q b ≡ true = rw (sym v.1) (there i l v.0).1 in clash passes e) (λ w. w))

    -- equally many pass both
    pub count_paired : count_below n p ≡ count_below n q
    count_paired =
        count_by_value n n p to to_below
        ∙ sum_same n (λ b. count_below n (leads b)) (λ b. cond (q b) 1 0) (λ b h. either (q b) (λ e. rw e (one b h e)) (λ e. rw e (none b h e)))
        ∙ sym (sum_count n q)

-- ---- a test that implies another, and is passed by as many

bit_split : (h q : Bool) → (h ≡ true → q ≡ true) → cond {A = ℕ} q 1 0 ≡ cond h 1 0 + cond (q && not h) 1 0
bit_split true q f = rw (f refl)
bit_split false true f = refl
bit_split false false f = refl

count_split : (n : ℕ) (h q : ℕ → Bool) → ((i : ℕ) → i < n → h i ≡ true → q i ≡ true) → count_below n q ≡ count_below n h + count_below n (λ i. q i && not (h i))
unfolding count_below
count_split zero h q f = refl
count_split (suc n) h q f = omega (arith, count_split n h q (λ i l. f i (omega arith)), bit_split (h n) (q n) (f n (le_refl (suc n))))

not_both : (q h : Bool) → q ≡ true → (q && not h) ≡ false → h ≡ true
not_both q true e f = refl
not_both q false e f = clash (rw e) f

-- each that passes the second passes the first
count_full : (n : ℕ) (h q : ℕ → Bool) → ((i : ℕ) → i < n → h i ≡ true → q i ≡ true) → count_below n h ≡ count_below n q → (i : ℕ) → i < n → q i ≡ true → h i ≡ true
count_full n h q f e i l p =
    not_both (q i) (h i) p (count_zero n (λ j. q j && not (h j)) (omega (arith, count_split n h q f)) i l)

-- ---- the pigeonhole

module _ (n : ℕ) (p q : ℕ → Bool) (t : ℕ → ℕ) (there : Paired n p q t) where
  -- numbers that pass q and are led back from one that passes p
  abbrev hit : ℕ → Bool
  hit j = q j && (ltb (t j) n && (p (t j) && eqb (t (t j)) j))

  hit-parts : (j : ℕ) → hit j ≡ true → (t j < n) × (p (t j) ≡ true) × (t (t j) ≡ j)
  hit-parts j e =
      let a = and_snd (q j) _ e in
      let b = and_snd (ltb (t j) n) _ a in
      (ltb-true (t j) n (and_fst (ltb (t j) n) _ a), and_fst (p (t j)) _ b, eqb-true (t (t j)) j (and_snd (p (t j)) _ b))

  hit-there : Paired n p hit t
  hit-there i h e =
      let s = there i h e in
      let again : p (t (t i)) ≡ true = rw s.2 e in
      let below : t (t i) < n = rw s.2 h in
      let same : t (t (t i)) ≡ t i = ap t s.2 in
      (s.0, and_intro (q (t i)) _ s.1 (and_intro (ltb (t (t i)) n) _ (lt-ltb (t (t i)) n below) (and_intro (p (t (t i))) _ again (eq-eqb (t (t (t i))) (t i) same))), s.2)

  -- where as many pass q as p, each that passes q is led to from one that passes p
  pub all_hit : count_below n p ≡ count_below n q → Paired n q p t
  all_hit e i l passes =
      hit-parts i (count_full n hit q (λ j m w. and_fst (q j) _ w) (sym (count_paired n p hit t hit-there (λ j m w. hit-parts j w)) ∙ e) i l passes)

-- ---- rows

-- n rows of w numbers, of which row k has the first c k
pub count_rows : (n w : ℕ) (c : ℕ → ℕ) (f : ℕ → ℕ → Bool) → ((k : ℕ) → c k ≤ w) → (p : ℕ → Bool) → ((k i : ℕ) → i < w → p (k * w + i) ≡ (ltb i (c k) && f k i))
    → count_below (n * w) p ≡ sum_below n (λ k. count_below (c k) (f k))
unfolding sum_below count_below
count_rows zero w c f h p e = rw zero-mul
count_rows (suc n) w c f h p e =
    let m : suc n * w ≡ n * w + w = suc-mul n w in
    rw (m, count_add (n * w) w p, count_rows n w c f h p e, count_same w (λ i. p (n * w + i)) (λ i. ltb i (c n) && f n i) (e n), count_first w (c n) (f n) (h n))
