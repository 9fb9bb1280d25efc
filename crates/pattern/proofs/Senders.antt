-- Laws of the sender of a tree, and of the trees from one rank to another.
use Prim.Native.Nat.{ℕ, zero, suc, ◌+◌, ◌-◌, ◌*◌, ◌≤◌, ◌<◌, min, max}
use native.Mathlib.Nat.{le_refl, le_of_eq}
use native.Mathlib.Omega.{arith}
use mathlib.Core.Path.{◌≡◌, refl, ap, ◌∙◌}
use mathlib.Core.Bool.{Bool, true, false, cond, not, ◌&&◌, ◌||◌}
use mathlib.Core.List.{List}
use lib.Dec.{leb, ltb, eqb}
use borrow.Author.Tests.{ltb-true, ltb-false, leb-true, eqb-true, eqb-false, lt-ltb, le-leb, eq-eqb}
use Rattle.encoding.specs.Below.{all_below, any_below, least_below}
use Rattle.encoding.specs.Numbers.{le_value, le_at}
use Rattle.encoding.specs.Pieces.{Bytes}
use Rattle.encoding.proofs.Below.{tests, either, clash, and_fst, and_snd, and_intro, iff_eq, below_suc, all_at, all_intro, any_intro, any_at, least_none, least_lt, least_at, least_le, least_min, least_below_lem, least_is}
use Rattle.encoding.proofs.Pieces.{piece_past}
use Rattle.offsets.specs.Table.{ranks, ranks_ok, valid, trees, entry, negative, magnitude, first_tree, end_tree, holds}
use Rattle.offsets.proofs.Tables.{size, ranks_low, trees_high, zero_first, plain_magnitude, small_plain, plain_first, shared_first, end_next, end_trees, rises, last_end}
use Rattle.std.specs.Prelude.{Some, None}
use Rattle.pattern.specs.Sender.{Tables, distance, nearest, sender, sender_to, sends, sent_count, sent_first}
use Rattle.pattern.specs.Means.{has_trees, lower_rank, above_with_trees, upper_rank, sent_low, sent_high}
use Rattle.pattern.proofs.Counting.{range_true, range_in, count_span, least_span}

-- ---- the trees of a rank

-- a rank holds the trees from its first up to its end
pub holds_true : (t : List ℕ) (p k : ℕ) → holds t p k ≡ true → (first_tree t p ≤ k) × (k < end_tree t p)
unfolding holds
holds_true t p k e = range_true (first_tree t p) (end_tree t p) k e

pub holds_in : (t : List ℕ) (p k : ℕ) → first_tree t p ≤ k → k < end_tree t p → holds t p k ≡ true
unfolding holds
holds_in t p k l h = range_in (first_tree t p) (end_tree t p) k l h

-- ---- the holders of a tree, in one valid table

module _ (t : List ℕ) (b : Bytes t) (ok : ranks_ok t ≡ true) (v : valid t ≡ true) where
  -- the first tree of p is |O[p]| or |O[p]| - 1
  pub first_near : (p : ℕ) → (first_tree t p ≤ magnitude (entry t p)) × (magnitude (entry t p) ≤ first_tree t p + 1)
  first_near p =
      either (negative (entry t p))
      (λ e. let s = shared_first t b ok v p e in (omega arith, omega arith))
      (λ e. let s = plain_first t b ok v p e in (omega arith, omega arith))

  -- the trees of lower ranks end at |O[q]| or before it
  pub end_before : (p q : ℕ) → p < q → q ≤ ranks t → end_tree t p ≤ magnitude (entry t q)
  end_before p q h l = rw (end_next t p) (rises t b ok v (suc p) q h l)

  -- a rank beyond P has no tree
  pub holds_rank : (p k : ℕ) → holds t p k ≡ true → p < ranks t
  unfolding entry le_at le_value
  holds_rank p k e =
      either (ltb p (ranks t)) (ltb-true p (ranks t))
      (λ n. let s = size t b ok v in
      let z : entry t (suc p) ≡ 0 = rw (piece_past t (8 * suc p) 8 (omega tests)) in
      let m : end_tree t p ≡ 0 = end_next t p ∙ rw (z, plain_magnitude 0 (small_plain 0 (omega arith))) in
      absurd (omega (arith, (holds_true t p k e).1)))

  -- |O[p]| is at most a number from the ends of all lower ranks on
  low-le : (p k : ℕ) → ((q : ℕ) → q < p → end_tree t q ≤ k) → magnitude (entry t p) ≤ k
  low-le zero k h = rw (zero_first t b ok v, plain_magnitude 0 (small_plain 0 (omega arith))) (omega arith)
  low-le (suc p) k h = rw (← end_next t p) (h p (le_refl (suc p)))

  -- each tree has a holder: the least rank whose trees end after it, and there |O[p]| is at most the tree
  pub some_holder : (k : ℕ) → k < trees t → (p : ℕ) × (p < ranks t) × (magnitude (entry t p) ≤ k) × (holds t p k ≡ true)
  some_holder k h =
      let P = ranks t in
      let after : ℕ → Bool = λ p. ltb k (end_tree t p) in
      let l = ranks_low t b ok v in
      let e : suc (P - 1) ≡ P = omega arith in
      let f : any_below P after ≡ true = any_intro P after (P - 1) (omega arith) (lt-ltb k (end_tree t (P - 1)) (rw (end_next t (P - 1), e, last_end t b ok v) h)) in
      let p = least_below P after in
      let m : magnitude (entry t p) ≤ k = low-le p k (λ q s. ltb-false k (end_tree t q) (least_below_lem P after q s)) in
      (p, least_lt P after f, m, holds_in t p k (omega (arith, (first_near p).0)) (ltb-true k (end_tree t p) (least_at P after f)))

  -- between two holders of a tree, each rank that has trees holds it
  pub between_holds : (p m r k : ℕ) → p < m → m < r → holds t p k ≡ true → holds t r k ≡ true → first_tree t m < end_tree t m → holds t m k ≡ true
  between_holds p m r k x y e f s =
      let R = holds_rank r k f in
      let g = holds_true t p k e in
      let h = holds_true t r k f in
      let c = end_before p m x (omega arith) in
      let d = end_before m r y (omega arith) in
      holds_in t m k (omega (arith, first_near r)) (omega (arith, first_near m))

-- ---- the ranks with trees on either side

-- a rank that holds a tree has trees
pub trees_of : (t : List ℕ) (p k : ℕ) → holds t p k ≡ true → has_trees t p ≡ true
unfolding has_trees
trees_of t p k e = let h = holds_true t p k e in lt-ltb (first_tree t p) (end_tree t p) (omega arith)

trees_some : (t : List ℕ) (p : ℕ) → has_trees t p ≡ true → first_tree t p < end_tree t p
unfolding has_trees
trees_some t p e = ltb-true (first_tree t p) (end_tree t p) e

-- the nearest below p is below p and has trees where some rank below p has, and none between has
lower_near : (t : List ℕ) (p r : ℕ) → r < p → has_trees t r ≡ true → (r ≤ lower_rank t p) × (lower_rank t p < p) × (has_trees t (lower_rank t p) ≡ true)
unfolding lower_rank
lower_near t zero r l e = absurd (omega arith)
lower_near t (suc p) r l e =
    either (has_trees t p)
    (λ h. rw h (omega arith, omega arith, h))
    (λ h. below_suc r p l
    (λ i. let n = lower_near t p r i e in rw h (n.0, omega (arith, n.1), n.2))
    (λ i. clash (rw i at e) h))

-- the nearest above p, likewise
upper_near : (t : List ℕ) (p r : ℕ) → p < r → r < ranks t → has_trees t r ≡ true → upper_rank t p ≤ r
unfolding upper_rank above_with_trees
upper_near t p r l u e = least_min (ranks t) (above_with_trees t p) r u (and_intro (ltb p r) (has_trees t r) (lt-ltb p r l) e)

upper_has : (t : List ℕ) (p : ℕ) → upper_rank t p < ranks t → (p < upper_rank t p) × (has_trees t (upper_rank t p) ≡ true)
unfolding upper_rank above_with_trees
upper_has t p l =
    let f = above_with_trees t p in
    either (any_below (ranks t) f)
    (λ e. let a = least_at (ranks t) f e in (ltb-true p _ (and_fst _ _ a), and_snd (ltb p (least_below (ranks t) f)) _ a))
    (λ e. absurd (omega (arith, least_none (ranks t) f e)))

pub upper_le : (t : List ℕ) (p : ℕ) → upper_rank t p ≤ ranks t
unfolding upper_rank
upper_le t p = least_le (ranks t) (above_with_trees t p)

-- ---- the sender

module _ (old : List ℕ) (k q : ℕ) where
  -- a nearest holder: it holds the tree, and every holder is as far from q or farther
  nearest-true : (p : ℕ) → nearest old k q p ≡ true → (holds old p k ≡ true) × ((r : ℕ) → r < ranks old → holds old r k ≡ true → distance p q ≤ distance r q)
  unfolding nearest
  nearest-true p e =
      let f : ℕ → Bool = λ r. not (holds old r k) || leb (distance p q) (distance r q) in (
        and_fst (holds old p k) (all_below (ranks old) f) e,
        (λ r l h. leb-true (distance p q) (distance r q) (rw h at (all_at (ranks old) f (and_snd (holds old p k) (all_below (ranks old) f) e) r l))),
      )

  nearest_in : (p : ℕ) → holds old p k ≡ true → ((r : ℕ) → r < ranks old → holds old r k ≡ true → distance p q ≤ distance r q) → nearest old k q p ≡ true
  unfolding nearest
  nearest_in p h f =
      and_intro (holds old p k) (all_below (ranks old) (λ r. not (holds old r k) || leb (distance p q) (distance r q))) h
      (all_intro (ranks old) (λ r. not (holds old r k) || leb (distance p q) (distance r q))
      (λ r l. either (holds old r k) (λ e. rw (e, le-leb (distance p q) (distance r q) (f r l e))) (λ e. rw e)))

  -- a holder that is strictly nearer than all lower holders, and as near as all higher ones, is the sender
  pub sender_is : (p : ℕ) → p < ranks old → holds old p k ≡ true
      → ((r : ℕ) → r < p → holds old r k ≡ true → p + r < q + q) → ((r : ℕ) → p < r → r < ranks old → holds old r k ≡ true → q + q ≤ p + r)
      → sender old k q ≡ p
  unfolding sender distance
  sender_is p l h low high =
      least_is (ranks old) (nearest old k q) p l
      (nearest_in p h (λ r u e. either (ltb r p) (λ c. omega (tests, low r (omega tests) e)) (λ c. either (eqb r p) (λ d. omega tests) (λ d. omega (tests, high r (omega (tests, eqb-false r p d)) u e)))))
      (λ j s. either (nearest old k q j)
      (λ e. let n = nearest-true j e in absurd (omega (arith, n.1 p l h, low j s n.0)))
      (λ e. e))

  -- where the tree has a holder
  module _ (some : ℕ) (someLess : some < ranks old) (someHolds : holds old some k ≡ true) where
    abbrev held_at : ℕ → ℕ → Bool
    held_at d p = holds old p k && eqb (distance p q) d

    abbrev held_some_lem : ℕ → Bool
    held_some_lem d = any_below (ranks old) (held_at d)

    held_some : (p : ℕ) → p < ranks old → holds old p k ≡ true → held_some_lem (distance p q) ≡ true
    held_some p l e = any_intro (ranks old) (held_at (distance p q)) p l (and_intro (holds old p k) (eqb (distance p q) (distance p q)) e (eq-eqb (distance p q) (distance p q) refl))

    -- one of them is nearest
    nearest-some : any_below (ranks old) (nearest old k q) ≡ true
    nearest-some =
        let n = suc (distance some q) in
        let s : any_below n held_some_lem ≡ true = any_intro n held_some_lem (distance some q) (le_refl n) (held_some some someLess someHolds) in
        let d = least_below n held_some_lem in
        let a = any_at (ranks old) (held_at d) (least_at n held_some_lem s) in
        let p = a.0 in
        let e : distance p q ≡ d = eqb-true (distance p q) d (and_snd (holds old p k) (eqb (distance p q) d) a.2) in
        any_intro (ranks old) (nearest old k q) p a.1
        (nearest_in p (and_fst (holds old p k) (eqb (distance p q) d) a.2)
        (λ r l h. either (leb d (distance r q)) (λ c. rw e (leb-true d (distance r q) c))
        (λ c. clash (held_some r l h) (least_below_lem n held_some_lem (distance r q) (omega tests)))))

    pub sender_rank : sender old k q < ranks old
    unfolding sender
    sender_rank = least_lt (ranks old) (nearest old k q) nearest-some

    sender-nearest : nearest old k q (sender old k q) ≡ true
    unfolding sender
    sender-nearest = least_at (ranks old) (nearest old k q) nearest-some

    pub sender_has : holds old (sender old k q) k ≡ true
    sender_has = (nearest-true (sender old k q) sender-nearest).0

    sender-least : (r : ℕ) → r < sender old k q → nearest old k q r ≡ false
    unfolding sender
    sender-least r l = least_below_lem (ranks old) (nearest old k q) r l

    -- it is strictly nearer than all lower holders
    pub sender_low : (r : ℕ) → r < sender old k q → holds old r k ≡ true → sender old k q + r < q + q
    unfolding distance
    sender_low r l h =
        let s = sender old k q in
        let n = (nearest-true s sender-nearest).1 in
        let R : r < ranks old = omega (arith, sender_rank) in
        either (ltb (s + r) (q + q)) (ltb-true (s + r) (q + q))
        (λ c. clash (nearest_in r h (λ u m e. omega (tests, n u m e, n r R h))) (sender-least r l))

    -- and as near as all higher ones
    pub sender_high : (r : ℕ) → sender old k q < r → r < ranks old → holds old r k ≡ true → q + q ≤ sender old k q + r
    unfolding distance
    sender_high r l u h = omega (arith, (nearest-true (sender old k q) sender-nearest).1 r u h)

module _ (old new : List ℕ) (T : Tables old new) where
  near : (p : ℕ) → (first_tree old p ≤ magnitude (entry old p)) × (magnitude (entry old p) ≤ first_tree old p + 1)
  near = first_near old T.old_bytes T.old_ranks T.old_valid

  before : (p q : ℕ) → p < q → q ≤ ranks old → end_tree old p ≤ magnitude (entry old q)
  before = end_before old T.old_bytes T.old_ranks T.old_valid

  between : (p m r k : ℕ) → p < m → m < r → holds old p k ≡ true → holds old r k ≡ true → has_trees old m ≡ true → holds old m k ≡ true
  between p m r k x y e f s = between_holds old T.old_bytes T.old_ranks T.old_valid p m r k x y e f (trees_some old m s)

  holder : (k : ℕ) → k < trees old → (p : ℕ) × (p < ranks old) × (magnitude (entry old p) ≤ k) × (holds old p k ≡ true)
  holder = some_holder old T.old_bytes T.old_ranks T.old_valid

  -- the sender is a rank
  pub sender_lt : (k q : ℕ) → k < trees old → q < ranks old → sender old k q < ranks old
  sender_lt k q h l = let s = holder k h in sender_rank old k q s.0 s.1 s.3

  -- it holds the tree under the old table
  pub sender_holds : (k q : ℕ) → k < trees old → q < ranks old → holds old (sender old k q) k ≡ true
  sender_holds k q h l = let s = holder k h in sender_has old k q s.0 s.1 s.3

  -- a rank that holds the tree has it from itself
  pub sender_self : (k q : ℕ) → holds old q k ≡ true → sender old k q ≡ q
  sender_self k q e = sender_is old k q q (holds_rank old T.old_bytes T.old_ranks T.old_valid q k e) e (λ r l h. omega arith) (λ r l u h. omega arith)

  -- there is a sender exactly for the trees of the new range
  pub sender_defined : (k q : ℕ) → holds new q k ≡ true → sender_to old new k q ≡ Some (sender old k q)
  unfolding sender_to
  sender_defined k q e = rw e

  pub sender_nobody : (k q : ℕ) → holds new q k ≡ false → sender_to old new k q ≡ None
  unfolding sender_to
  sender_nobody k q e = rw e

  -- to one rank, the sender never falls from tree to tree
  pub sender_rises : (j k q : ℕ) → j ≤ k → k < trees old → q < ranks old → sender old j q ≤ sender old k q
  sender_rises j k q l h r =
      let a = sender old j q in
      let c = sender old k q in
      let n : a < ranks old = sender_lt j q (omega arith) r in
      let s = holds_true old a j (sender_holds j q (omega arith) r) in
      let u = holds_true old c k (sender_holds k q h r) in
      either (ltb j k)
      (λ e. either (ltb c a) (λ d. absurd (omega (tests, before c a (omega tests) (omega arith), near a))) (λ d. omega tests))
      (λ e. let i : j ≡ k = omega tests in le_of_eq (ap (λ m. sender old m q) i))

  -- ---- the trees from one rank to another

  -- p sends q a tree where it is the sender of a tree of the new range
  pub sends_true : (p q k : ℕ) → sends old new p q k ≡ true → (holds new q k ≡ true) × (sender old k q ≡ p)
  unfolding sends
  sends_true p q k e = (and_fst (holds new q k) (eqb (sender old k q) p) e, eqb-true (sender old k q) p (and_snd (holds new q k) (eqb (sender old k q) p) e))

  pub sends_in : (q k : ℕ) → holds new q k ≡ true → sends old new (sender old k q) q k ≡ true
  unfolding sends
  sends_in q k e = and_intro (holds new q k) (eqb (sender old k q) (sender old k q)) e (eq-eqb (sender old k q) (sender old k q) refl)

  -- they are trees of p, from its first or the one behind it, and of q
  pub sent_old : (p q : ℕ) → (first_tree old p ≤ sent_low old new p q) × (sent_high old new p q ≤ end_tree old p)
  unfolding sent_low sent_high
  sent_old p q = (
    either (leb (q + q) (lower_rank old p + p)) (λ e. rw e (omega arith)) (λ e. rw e (omega arith)),
    either (ltb (upper_rank old p + p) (q + q)) (λ e. rw e (omega arith)) (λ e. rw e (omega arith)),
  )

  pub sent_new : (p q : ℕ) → (first_tree new q ≤ sent_low old new p q) × (sent_high old new p q ≤ end_tree new q)
  unfolding sent_low sent_high
  sent_new p q = (
    either (leb (q + q) (lower_rank old p + p)) (λ e. rw e (omega arith)) (λ e. rw e (omega arith)),
    either (ltb (upper_rank old p + p) (q + q)) (λ e. rw e (omega arith)) (λ e. rw e (omega arith)),
  )

  -- the first is the first new tree of q, the first tree of p, or the one behind that
  pub sent_start : (p q : ℕ) → sent_low old new p q ≤ max (first_tree old p + 1) (first_tree new q)
  unfolding sent_low
  sent_start p q = either (leb (q + q) (lower_rank old p + p)) (λ e. rw e (omega (arith, near p))) (λ e. rw e (omega arith))

  -- a tree from sent_low on, and one before sent_high
  low_parts : (p q k : ℕ) → sent_low old new p q ≤ k → (first_tree old p ≤ k) × (first_tree new q ≤ k) × (q + q ≤ lower_rank old p + p → magnitude (entry old p) ≤ k)
  unfolding sent_low
  low_parts p q k i =
      either (leb (q + q) (lower_rank old p + p))
      (λ f. let j : max (magnitude (entry old p)) (max (first_tree old p) (first_tree new q)) ≤ k = rw f at i in (omega arith, omega arith, (λ _. omega arith)))
      (λ f. let j : max (first_tree old p) (first_tree new q) ≤ k = rw f at i in (omega arith, omega arith, (λ c. absurd (omega tests))))

  high_parts : (p q k : ℕ) → k < sent_high old new p q → (k < end_tree old p) × (k < end_tree new q) × (upper_rank old p + p < q + q → k < first_tree old (upper_rank old p))
  unfolding sent_high
  high_parts p q k i =
      either (ltb (upper_rank old p + p) (q + q))
      (λ f. let j : k < min (first_tree old (upper_rank old p)) (min (end_tree old p) (end_tree new q)) = rw f at i in (omega arith, omega arith, (λ _. omega arith)))
      (λ f. let j : k < min (end_tree old p) (end_tree new q) = rw f at i in (omega arith, omega arith, (λ c. absurd (omega tests))))

  -- no tree is from O[P] on
  last-first : first_tree old (ranks old) ≡ trees old
  unfolding trees
  last-first = plain_first old T.old_bytes T.old_ranks T.old_valid (ranks old) (small_plain (trees old) (trees_high old T.old_bytes T.old_ranks T.old_valid)) ∙ last_end old T.old_bytes T.old_ranks T.old_valid

  module _ (p q k : ℕ) (l : p < ranks old) (r : q < ranks old) (h : k < trees old) where
    -- a tree before |O[p]| that p holds has a lower holder
    lower-holder : holds old p k ≡ true → k < magnitude (entry old p) → (r : ℕ) × (r < p) × (holds old r k ≡ true)
    lower-holder e c =
        let s = holder k h in
        let r = s.0 in
        let u = holds_true old p k e in (
          r,
          either (ltb r p) (ltb-true r p)
              (λ y. either (eqb r p)
              (λ z. let m : magnitude (entry old p) ≤ k = rw (eqb-true r p z) at s.2 in absurd (omega arith))
              (λ z. absurd (omega (tests, s.2, eqb-false r p z, before p r (omega (tests, eqb-false r p z)) (omega (arith, s.1)))))),
          s.3,
        )

    -- the nearest lower rank with trees holds what a lower rank and p hold
    lower-holds : (r : ℕ) → r < p → holds old r k ≡ true → holds old p k ≡ true → (r ≤ lower_rank old p) × (lower_rank old p < p) × (holds old (lower_rank old p) k ≡ true)
    lower-holds r x e f =
        let m = lower_rank old p in
        let n = lower_near old p r x (trees_of old r k e) in
        (n.0, n.1, either (eqb r m) (λ y. rw (eqb-true r m y) at e) (λ y. between r m p k (omega (arith, n.0, eqb-false r m y)) n.1 e f n.2))

    -- the nearest higher one likewise
    upper-holds : (r : ℕ) → p < r → holds old r k ≡ true → holds old p k ≡ true → (upper_rank old p ≤ r) × (holds old (upper_rank old p) k ≡ true)
    upper-holds r x e f =
        let n = upper_rank old p in
        let R = holds_rank old T.old_bytes T.old_ranks T.old_valid r k e in
        let u = upper_near old p r x R (trees_of old r k e) in
        let a = upper_has old p (omega arith) in
        (u, either (eqb r n) (λ y. rw (eqb-true r n y) at e) (λ y. between p n r k a.0 (omega (arith, eqb-false r n y)) f e a.1))

    -- what p sends q it holds; its first tree only where the nearest lower holder is farther, its last only where the nearest higher is no nearer
    module _ (e : sender old k q ≡ p) where
      sent_held : holds old p k ≡ true
      sent_held = let s = holder k h in rw e at (sender_has old k q s.0 s.1 s.3)

      sent-first-free : q + q ≤ lower_rank old p + p → magnitude (entry old p) ≤ k
      sent-first-free c =
          either (leb (magnitude (entry old p)) k) (leb-true (magnitude (entry old p)) k)
          (λ d. let r = lower-holder sent_held (omega tests) in
          let m = lower-holds r.0 r.1 r.2 sent_held in
          let z = sender_low old k q p l sent_held (lower_rank old p) (rw e m.1) m.2 in
          absurd (omega arith))

      sent-last-free : upper_rank old p + p < q + q → k < first_tree old (upper_rank old p)
      sent-last-free c =
          let n = upper_rank old p in
          let u = holds_true old p k sent_held in
          either (ltb k (first_tree old n)) (ltb-true k (first_tree old n))
          (λ d. either (ltb n (ranks old))
          (λ f. let a = upper_has old p (omega tests) in
          let b = before p n a.0 (omega tests) in
          let g = trees_some old n a.1 in
          let z = sender_high old k q p l sent_held n (rw e a.0) (omega tests) (holds_in old n k (omega tests) (omega (arith, near n))) in
          absurd (omega arith))
          (λ f. let i : n ≡ ranks old = omega (tests, upper_le old p) in
          let j : first_tree old n ≡ trees old = rw i last-first in
          absurd (omega tests)))

    -- and so much suffices
    sender-from : holds old p k ≡ true → (q + q ≤ lower_rank old p + p → magnitude (entry old p) ≤ k) → (upper_rank old p + p < q + q → k < first_tree old (upper_rank old p)) → sender old k q ≡ p
    sender-from e low high =
        let u = holds_true old p k e in
        sender_is old k q p l e
        (λ r x f. either (ltb (p + r) (q + q)) (ltb-true (p + r) (q + q))
        (λ d. absurd (omega (tests, (lower-holds r x f e).0, low (omega (tests, (lower-holds r x f e).0)), before r p x (omega arith), (holds_true old r k f).1))))
        (λ r x _ f. either (leb (q + q) (p + r)) (leb-true (q + q) (p + r))
        (λ d. let m = upper-holds r x f e in
        absurd (omega (tests, (holds_true old (upper_rank old p) k m.1).0, high (omega (tests, m.0))))))

    -- p sends q the trees from sent_low up to sent_high
    pub sends_range : sends old new p q k ≡ (leb (sent_low old new p q) k && ltb k (sent_high old new p q))
    unfolding sent_low sent_high
    sends_range =
        let a = first_tree old p in
        let b = end_tree old p in
        let c = first_tree new q in
        let d = end_tree new q in
        let m = lower_rank old p in
        let n = upper_rank old p in
        iff_eq (sends old new p q k) (leb (sent_low old new p q) k && ltb k (sent_high old new p q))
        (λ e. let s = sends_true p q k e in
        let x = holds_true new q k s.0 in
        let y = holds_true old p k (sent_held s.1) in
        range_in (sent_low old new p q) (sent_high old new p q) k
        (either (leb (q + q) (m + p)) (λ f. rw f (omega (arith, sent-first-free s.1 (leb-true (q + q) (m + p) f)))) (λ f. rw f (omega arith)))
        (either (ltb (n + p) (q + q)) (λ f. rw f (omega (arith, sent-last-free s.1 (ltb-true (n + p) (q + q) f)))) (λ f. rw f (omega arith))))
        (λ e. let i = range_true (sent_low old new p q) (sent_high old new p q) k e in
        let lo = low_parts p q k i.0 in
        let hi = high_parts p q k i.1 in
        let y : holds old p k ≡ true = holds_in old p k lo.0 hi.0 in
        rw (sender-from y lo.2 hi.2) at (sends_in q k (holds_in new q k lo.1 hi.1)))

  module _ (p q : ℕ) (l : p < ranks old) (r : q < ranks old) where
    -- none of them is above K
    pub sent_high_lem : sent_high old new p q ≤ trees old
    sent_high_lem =
        let n = T.same_ranks in
        let k = T.same_trees in
        omega (arith, (sent_new p q).1, end_trees new T.new_bytes T.new_ranks T.new_valid q (omega arith))

    range : (k : ℕ) → k < trees old → sends old new p q k ≡ (leb (sent_low old new p q) k && ltb k (sent_high old new p q))
    range k h = sends_range p q k l r h

    -- how many
    pub sent_count_lem : sent_count old new p q ≡ sent_high old new p q - sent_low old new p q
    unfolding sent_count
    sent_count_lem = count_span (trees old) (sends old new p q) (sent_low old new p q) (sent_high old new p q) sent_high_lem range

    -- the first
    pub sent_first_lem : sent_first old new p q ≡ cond (eqb (sent_count old new p q) 0) 0 (sent_low old new p q)
    unfolding sent_first
    sent_first_lem =
        either (eqb (sent_count old new p q) 0) (λ e. rw e)
        (λ e. let n = eqb-false (sent_count old new p q) 0 e in
        let c = sent_count_lem in
        rw e (least_span (trees old) (sends old new p q) (sent_low old new p q) (sent_high old new p q) sent_high_lem range (omega arith)))
