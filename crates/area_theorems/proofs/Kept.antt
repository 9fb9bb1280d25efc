-- Laws of ghosts in a row: the records of the numbers that pass a test, in order, and two lists of ghosts made one.
use Prim.Native.Nat.{ℕ, zero, suc, ◌+◌, ◌*◌, ◌<◌}
use native.Mathlib.Nat.{le_refl, mul-le-mul_left}
use native.Mathlib.Omega.{arith}
use mathlib.Core.Path.{◌≡◌, refl, sym, ap, ap₂, ◌∙◌}
use mathlib.Core.Bool.{Bool, true, false, cond, ◌||◌}
use mathlib.Core.List.{List, [], ◌∷◌, ◌++◌, append-nil}
use lib.Dec.{leb, ltb, eqb}
use lib.ListN.{length, get_or, length-append, get_or-append}
use lib.Seq.{get_or_at}
use borrow.Author.Tests.{eqb-true, eq-eqb, ne_eqb, lt-ltb, le-leb, le-ltb}
use Rattle.encoding.specs.Below.{any_below, count_below, least_below, kept_below}
use Rattle.encoding.specs.Pieces.{piece}
use Rattle.encoding.proofs.Below.{tests, either, clash, below_suc, any_intro, any_none, least_lt, least_at, count_none, count_range, kept_length, kept_found, kept_ascends}
use Rattle.records.specs.Record.{core_size, number_of, in_form}
use Rattle.offsets.specs.Table.{holds}
use Rattle.area.specs.Deliver.{among, one_of}
use Rattle.area_theorems.proofs.Joined.{piece_first, piece_last}

-- ghost j of ghosts in a row
abbrev pub ghost_at : List ℕ → ℕ → List ℕ
ghost_at ghosts j = piece ghosts (core_size * j) core_size

-- count ghosts r of a rank: in form, below K, outside the rank's new range, ascending
pub record Ghosts (K : ℕ) (new : List ℕ) (rank count : ℕ) (r : ℕ → List ℕ) : Type 0 where
  pub long : (j : ℕ) → j < count → length (r j) ≡ core_size
  pub form : (j : ℕ) → j < count → in_form (number_of (r j)) (r j) ≡ true
  pub below : (j : ℕ) → j < count → number_of (r j) < K
  pub outside : (j : ℕ) → j < count → holds new rank (number_of (r j)) ≡ false
  pub ascends : (i j : ℕ) → i < j → j < count → number_of (r i) < number_of (r j)

-- ---- the records of the numbers that pass

-- the records r of the numbers below n that pass f, in order
unfoldable pub kept_records : ℕ → (ℕ → Bool) → (ℕ → List ℕ) → List ℕ
kept_records zero f r = []
kept_records (suc n) f r = kept_records n f r ++ cond (f n) (r n) []

-- of w bytes each
module _ (f : ℕ → Bool) (r : ℕ → List ℕ) (w : ℕ) where
  pub records_length : (n : ℕ) → ((k : ℕ) → k < n → f k ≡ true → length (r k) ≡ w) → length (kept_records n f r) ≡ w * count_below n f
  unfolding kept_records count_below
  records_length zero l = omega arith
  records_length (suc n) l =
      either (f n)
      (λ t. rw (length-append, records_length n (λ k a. l k (omega arith)), t) (omega (arith, l n (le_refl (suc n)) t)))
      (λ t. rw (length-append, records_length n (λ k a. l k (omega arith)), t) (omega arith))

  -- record j is that of the number with j before it that pass
  pub records_at : (n : ℕ) → ((k : ℕ) → k < n → f k ≡ true → length (r k) ≡ w) → (j : ℕ) → j < count_below n f
      → piece (kept_records n f r) (w * j) w ≡ r (get_or (kept_below n f) j 0)
  unfolding kept_records count_below kept_below
  records_at zero l j h = absurd (omega arith)
  records_at (suc n) l j h =
      let l' : (k : ℕ) → k < n → f k ≡ true → length (r k) ≡ w = λ k a. l k (omega arith) in
      let R : List ℕ = kept_records n f r in
      let c : ℕ = count_below n f in
      let lR : length R ≡ w * c = records_length n l' in
      let lK : length (kept_below n f) ≡ c = kept_length n f in
      either (f n)
      (λ t. let h' : j < c + 1 = rw t at h in
      rw t
      (below_suc j c (omega arith)
      (λ a. piece_first R (r n) (w * j) w (omega (arith, mul-le-mul_left w a)) ∙ records_at n l' j a ∙ ap r (sym (get_or-append (kept_below n f) (n ∷ []) 0 j (omega arith))))
      (λ e. piece_last R (r n) (w * j) w (rw e lR) (l n (le_refl (suc n)) t) ∙ ap r (sym (get_or_at (kept_below n f) n [] 0 j (omega arith))))))
      (λ t. let h' : j < c = omega (arith, rw t at h) in
      rw (t, append-nil R, append-nil (kept_below n f)) (records_at n l' j h'))

-- they depend on the numbers below n
pub records_same : (n : ℕ) (f₁ f₂ : ℕ → Bool) (r₁ r₂ : ℕ → List ℕ) → ((k : ℕ) → k < n → f₁ k ≡ f₂ k) → ((k : ℕ) → k < n → f₁ k ≡ true → r₁ k ≡ r₂ k)
    → kept_records n f₁ r₁ ≡ kept_records n f₂ r₂
unfolding kept_records
records_same zero f₁ f₂ r₁ r₂ s e = refl
records_same (suc n) f₁ f₂ r₁ r₂ s e =
    ap₂ (λ (a b : List ℕ). a ++ b) (records_same n f₁ f₂ r₁ r₂ (λ k h. s k (omega arith)) (λ k h. e k (omega arith)))
    (either (f₁ n)
    (λ t. let u : f₂ n ≡ true = sym (s n (le_refl (suc n))) ∙ t in rw (t, u, e n (le_refl (suc n)) t))
    (λ t. let u : f₂ n ≡ false = sym (s n (le_refl (suc n))) ∙ t in rw (t, u)))

-- ---- counting

-- one number
count_equal : (n c : ℕ) → c < n → count_below n (λ k. eqb c k) ≡ 1
count_equal n c h =
    count_range n (λ k. eqb c k) c (c + 1) (omega arith) (omega arith)
    (λ k l. either (eqb c k)
    (λ e. let q = eqb-true c k e in rw (e, le-leb c k (omega arith), lt-ltb k (c + 1) (omega arith)))
    (λ e. rw e
    (either (leb c k)
    (λ p. rw (p, le-ltb k (c + 1) (either (ltb k (c + 1)) (λ q. clash (eq-eqb c k (omega tests)) e) (λ q. omega tests))))
    (λ p. rw p))))
    ∙ omega arith

-- two tests that no number passes both
pub count_apart : (n : ℕ) (f g : ℕ → Bool) → ((k : ℕ) → k < n → f k ≡ true → g k ≡ false) → count_below n (λ k. f k || g k) ≡ count_below n f + count_below n g
unfolding count_below
count_apart zero f g h = refl
count_apart (suc n) f g h =
    let i = count_apart n f g (λ k l. h k (omega arith)) in
    either (f n)
    (λ t. let u : g n ≡ false = h n (le_refl (suc n)) t in rw (t, u) (omega arith))
    (λ t. either (g n) (λ u. rw (t, u) (omega arith)) (λ u. rw (t, u) (omega arith)))

-- ---- records by their numbers

module _ (count : ℕ) (r : ℕ → List ℕ) where
  -- the record with number k is one of them
  pub record One (k : ℕ) : Type 0 where
    pub place : ℕ
    pub inside : place < count
    pub numbered : number_of (r place) ≡ k
    pub is_record : one_of count r k ≡ r place

  pub among_one : (k : ℕ) → among count r k ≡ true → One k
  unfolding among one_of
  among_one k e =
      let f : ℕ → Bool = λ j. eqb (number_of (r j)) k in
      record { place = least_below count f; inside = least_lt count f e; numbered = eqb-true (number_of (r (least_below count f))) k (least_at count f e); is_record = refl }

  -- each of them is among them
  pub among_at : (j : ℕ) → j < count → among count r (number_of (r j)) ≡ true
  unfolding among
  among_at j h = any_intro count (λ i. eqb (number_of (r i)) (number_of (r j))) j h (eq-eqb (number_of (r j)) (number_of (r j)) refl)

  -- where none has number k, k is not among them
  pub among_none : (k : ℕ) → ((j : ℕ) → j < count → number_of (r j) ≡ k → ⊥) → among count r k ≡ false
  unfolding among
  among_none k h = any_none count (λ j. eqb (number_of (r j)) k) (λ j l. ne_eqb (number_of (r j)) k (h j l))

-- as many numbers below K as records, where these are below K and ascend
pub count_among : (count : ℕ) (r : ℕ → List ℕ) (K : ℕ) → ((j : ℕ) → j < count → number_of (r j) < K) → ((i j : ℕ) → i < j → j < count → number_of (r i) < number_of (r j))
    → count_below K (among count r) ≡ count
unfolding among any_below
count_among zero r K b s = count_none K (λ k. false) (λ k h. refl)
count_among (suc n) r K b s =
    count_apart K (among n r) (λ k. eqb (number_of (r n)) k)
    (λ k h e. let o = among_one n r k e in
    let l : number_of (r o.place) < number_of (r n) = s o.place n o.inside (le_refl (suc n)) in
    let q : number_of (r o.place) ≡ k = o.numbered in
    ne_eqb (number_of (r n)) k (λ z. omega arith))
    ∙ (ap₂ (λ (x y : ℕ). x + y) (count_among n r K (λ j h. b j (omega arith)) (λ i j l h. s i j l (omega arith))) (count_equal K (number_of (r n)) (b n (le_refl (suc n)))) ∙ omega arith)

-- ---- two lists of ghosts made one

-- a ghost of a rank with number k
pub record Ghost (K : ℕ) (new : List ℕ) (rank k : ℕ) (r : List ℕ) : Type 0 where
  pub long : length r ≡ core_size
  pub numbered : number_of r ≡ k
  pub form : in_form k r ≡ true
  pub below : k < K
  pub outside : holds new rank k ≡ false

-- the one with number k is such a ghost
pub one_ghost : (K : ℕ) (new : List ℕ) (rank count : ℕ) (r : ℕ → List ℕ) → Ghosts K new rank count r → (k : ℕ) → among count r k ≡ true → Ghost K new rank k (one_of count r k)
one_ghost K new rank count r G k e =
    let o = among_one count r k e in
    let j = o.place in
    let h = o.inside in
    let q : number_of (r j) ≡ k = o.numbered in
    rw o.is_record
    record {
      long = G.long j h;
      numbered = q;
      form = rw q at (G.form j h);
      below = rw q at (G.below j h);
      outside = rw q at (G.outside j h);
    }

-- k is the number of one of either list, and the record with it
abbrev pub in_either : ℕ → (ℕ → List ℕ) → ℕ → (ℕ → List ℕ) → ℕ → Bool
in_either g r h s k = among g r k || among h s k

abbrev pub of_either : ℕ → (ℕ → List ℕ) → ℕ → (ℕ → List ℕ) → ℕ → List ℕ
of_either g r h s k = cond (among g r k) (one_of g r k) (one_of h s k)

-- two lists without a number in common
module _ (K : ℕ) (new : List ℕ) (rank g h : ℕ) (r s : ℕ → List ℕ) (G : Ghosts K new rank g r) (F : Ghosts K new rank h s)
    (apart : (j : ℕ) → j < h → among g r (number_of (s j)) ≡ false) where
  abbrev test : ℕ → Bool
  test = in_either g r h s

  abbrev both : List ℕ
  both = kept_records K (in_either g r h s) (of_either g r h s)

  either-ghost : (k : ℕ) → test k ≡ true → Ghost K new rank k (of_either g r h s k)
  either-ghost k e =
      either (among g r k)
      (λ t. rw t (one_ghost K new rank g r G k t))
      (λ t. let u : among h s k ≡ true = rw t at e in rw t (one_ghost K new rank h s F k u))

  -- as many as both have
  pub either_count : count_below K (in_either g r h s) ≡ g + h
  either_count =
      count_apart K (among g r) (among h s)
      (λ k l e. among_none h s k (λ j i q. clash e (rw q at (apart j i))))
      ∙ ap₂ (λ (x y : ℕ). x + y) (count_among g r K G.below G.ascends) (count_among h s K F.below F.ascends)

  either-long : (k : ℕ) → k < K → test k ≡ true → length (of_either g r h s k) ≡ core_size
  either-long k l e = (either-ghost k e).long

  -- their records in a row
  pub both_length : length (kept_records K (in_either g r h s) (of_either g r h s)) ≡ core_size * (g + h)
  both_length = records_length test (of_either g r h s) core_size K either-long ∙ ap (λ (c : ℕ). core_size * c) either_count

  -- record j is that of the number with j before it
  pub both_at : (j : ℕ) → j < g + h
      → ghost_at (kept_records K (in_either g r h s) (of_either g r h s)) j ≡ of_either g r h s (get_or (kept_below K (in_either g r h s)) j 0)
  both_at j l = records_at test (of_either g r h s) core_size K either-long j (rw either_count l)

  abbrev number : ℕ → ℕ
  number j = get_or (kept_below K test) j 0

  both-ghost : (j : ℕ) → j < g + h → Ghost K new rank (number j) (ghost_at both j)
  both-ghost j l =
      let f = kept_found K test j 0 (rw either_count l) in
      rw (both_at j l) (either-ghost (number j) f.1)

  -- they are ghosts, ascending
  pub both_ghosts : Ghosts K new rank (g + h) (ghost_at (kept_records K (in_either g r h s) (of_either g r h s)))
  both_ghosts =
      record {
        long = λ j l. (both-ghost j l).long;
        form = λ j l. rw (both-ghost j l).numbered (both-ghost j l).form;
        below = λ j l. rw (both-ghost j l).numbered (both-ghost j l).below;
        outside = λ j l. rw (both-ghost j l).numbered (both-ghost j l).outside;
        ascends = λ i j q l. rw ((both-ghost i (omega arith)).numbered, (both-ghost j l).numbered) (kept_ascends K test i j 0 q (rw either_count l));
      }
