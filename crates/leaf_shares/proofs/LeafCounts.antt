-- Laws of leaf counts: the cuts, and the partition that any ascending cuts give.
use Prim.Native.Nat.{ℕ, zero, suc, ◌+◌, ◌-◌, ◌*◌, ◌/◌, ◌%◌, ◌^◌, ◌≤◌, ◌<◌}
use native.Mathlib.Nat.{le_refl, mul-zero, div-zero, div-eq_of_lt, mod-lt, mul-le-mul, mul-le-mul_left, mul-add-div, mul-add-div_right, div-add-mod, le-div_iff_mul-le, div-mul-le_self, le_trans}
use native.Mathlib.Numerals.{add-one}
use native.Mathlib.Omega.{arith}
use mathlib.Core.Path.{◌≡◌, refl, sym, ap, ◌∙◌}
use mathlib.Core.Bool.{Bool, true, false, cond, not, ◌&&◌}
use mathlib.Core.List.{List}
use lib.Dec.{leb, ltb}
use lib.ListN.{length, get_or}
use borrow.Author.Tests.{lt-ltb, le-ltb, le-leb, lt-leb, not-true, not-false}
use Rattle.encoding.specs.Below.{any_below, count_below, least_below, sum_below}
use Rattle.encoding.specs.Pieces.{splice}
use Rattle.encoding.specs.Numbers.{put_u64}
use Rattle.encoding.proofs.Below.{tests, either, clash, and_fst, and_snd, and_intro, iff_eq, all_at, all_intro, any_intro, any_at, count_range, count_initial, count_none, least_is, least_none, least_below_lem, least_at, least_le, sum_more, sum_mono, sum_strict, sum_le, count_le}
use Rattle.encoding.proofs.Pieces.{splice_none}
use Rattle.encoding.proofs.Numbers.{length_put}
use Rattle.offsets.specs.Limits.{max_trees, rank_count_ok, tree_count_ok}
use Rattle.leaf_shares.specs.Leaves.{max_leaves, leaves_ok, leaf_start, leaf_total, cut, leaf_holds, leaf_first, leaf_count, equal_shares, leaf_table}
use Rattle.leaf_shares.specs.Means.{trees_before, shared_entry, leaf_entry, Walking}
use Rattle.offsets_write.specs.Partition.{non_empty, on_rank, last_tree, covers_all, covers_only, ascending, valid_partition, end_below, entry_of, entries_below, table_of}
use Rattle.offsets.specs.Table.{table_length}
use Rattle.offsets.proofs.Tables.{ranks_within}
use Rattle.offsets_write.proofs.Partitions.{table_length_lem, entries_put, table_put}

-- ---- the cut

-- no share, no leaf
pub cut_none : (n w : ℕ) → cut n 0 w ≡ 0
unfolding cut
cut_none n zero = rw mul-zero (div-zero 0)
cut_none n (suc w) = rw mul-zero (div-eq_of_lt (omega arith))

-- the whole share, all leaves
pub cut_all : (n w : ℕ) → 0 < w → cut n w w ≡ n
unfolding cut
cut_all n w h = mul-add-div_right h n (w - 1) ∙ (ap (λ m. n + m) (div-eq_of_lt (omega arith)) ∙ omega arith)

-- a greater share is cut no earlier
pub cut_mono : (n u v w : ℕ) → u ≤ v → cut n u w ≤ cut n v w
unfolding cut
cut_mono n u v zero h = simp div-zero (le_refl 0)
cut_mono n u v (suc w) h = (le-div_iff_mul-le {k = suc w} (omega arith)).1 (le_trans (div-mul-le_self (n * u + (suc w - 1)) (suc w)) (omega (arith, mul-le-mul_left n h)))

-- no share is cut past the last leaf
pub cut_le : (n v w : ℕ) → v ≤ w → 0 < w → cut n v w ≤ n
cut_le n v w h k = omega (arith, cut_mono n v w w h, cut_all n w k)

-- the quotient's share and the remainder's share: no product is above n or w * v
pub cut_parts : (n v w : ℕ) → 0 < w → (n / w) * v + ((n % w) * v + (w - 1)) / w ≡ cut n v w
unfolding cut
cut_parts n v w h =
    let e : n * v ≡ w * (n / w * v) + n % w * v = ap (λ m. m * v) (sym (div-add-mod n w)) ∙ omega arith in
    let f : n * v + (w - 1) ≡ w * (n / w * v) + (n % w * v + (w - 1)) = omega arith in
    sym (ap (λ m. m / w) f ∙ mul-add-div h (n / w * v) (n % w * v + (w - 1)))

-- and no product wraps
pub cut_fits : (n v w : ℕ) → 0 < w → v ≤ w → w < 2 ^ 32 → ((n / w) * v ≤ n) × ((n % w) * v + (w - 1) < 2 ^ 64)
cut_fits n v w h k b =
    let r : n % w ≤ 2 ^ 32 - 1 = omega (arith, mod-lt n h) in
    let m : v ≤ 2 ^ 32 - 1 = omega arith in
    (omega (arith, mul-le-mul_left (n / w) k, div-mul-le_self n w), omega (arith, mul-le-mul r m))

-- ---- trees in the order of their leaves

-- of a test that fails from some number on, those that pass are the numbers below their count
prefix_count : (n : ℕ) (f : ℕ → Bool) → ((i j : ℕ) → i ≤ j → j < n → f j ≡ true → f i ≡ true) → (k : ℕ) → k < n → f k ≡ ltb k (count_below n f)
prefix_count n f down k h =
    let g : ℕ → Bool = λ i. not (f i) in
    let m = least_below n g in
    let low : (i : ℕ) → i < m → f i ≡ true = λ i p. not-false (f i) (least_below_lem n g i p) in
    let high : (i : ℕ) → m ≤ i → i < n → f i ≡ false =
    λ i p q. either (any_below n g)
    (λ e. either (f i) (λ t. clash (down m i p q t) (not-true (f m) (least_at n g e))) (λ t. t))
    (λ e. absurd (omega (arith, least_none n g e))) in
    rw (count_initial n f m (least_le n g) low high) (either (ltb k m) (λ e. rw e (low k (omega tests))) (λ e. rw e (high k (omega tests) h)))

-- a number in a range
in_range_lem : (a i b : ℕ) → (leb a i && ltb i b) ≡ true → (a ≤ i) × (i < b)
in_range_lem a i b e = (omega (tests, and_fst (leb a i) (ltb i b) e), omega (tests, and_snd (leb a i) (ltb i b) e))

range_in : (a i b : ℕ) → a ≤ i → i < b → (leb a i && ltb i b) ≡ true
range_in a i b h k = and_intro (leb a i) (ltb i b) (le-leb a i h) (lt-ltb i b k)

-- a number within limits
in_limits : (a i b : ℕ) → (leb a i && leb i b) ≡ true → (a ≤ i) × (i ≤ b)
in_limits a i b e = (omega (tests, and_fst (leb a i) (leb i b) e), omega (tests, and_snd (leb a i) (leb i b) e))

-- a number before a range or behind it
pub out_range : (a i b : ℕ) → (a ≤ i → b ≤ i) → (leb a i && ltb i b) ≡ false
out_range a i b h = either (leb a i) (λ e. rw e (le-ltb i b (h (omega tests)))) (λ e. rw e)

-- two ranges below n meet where each begins before the other ends
ranges_meet : (n a b c d : ℕ) → a < b → d ≤ n → any_below n (λ i. (leb a i && ltb i b) && (leb c i && ltb i d)) ≡ (ltb c d && (ltb c b && ltb a d))
ranges_meet n a b c d h k =
    let f : ℕ → Bool = λ i. (leb a i && ltb i b) && (leb c i && ltb i d) in
    iff_eq (any_below n f) (ltb c d && (ltb c b && ltb a d))
    (λ e.
    let r = any_at n f e in
    let x = in_range_lem a r.0 b (and_fst (leb a r.0 && ltb r.0 b) _ r.2) in
    let y = in_range_lem c r.0 d (and_snd (leb a r.0 && ltb r.0 b) _ r.2) in
    and_intro (ltb c d) _ (lt-ltb c d (omega arith)) (and_intro (ltb c b) (ltb a d) (lt-ltb c b (omega arith)) (lt-ltb a d (omega arith))))
    (λ e.
    let u = and_fst (ltb c d) _ e in
    let v = and_fst (ltb c b) (ltb a d) (and_snd (ltb c d) _ e) in
    let w = and_snd (ltb c b) (ltb a d) (and_snd (ltb c d) _ e) in
    either (leb c a)
    (λ p. any_intro n f a (omega tests) (and_intro (leb a a && ltb a b) _ (range_in a a b (le_refl a) h) (range_in c a d (omega tests) (omega tests))))
    (λ p. any_intro n f c (omega tests) (and_intro (leb a c && ltb c b) _ (range_in a c b (omega tests) (omega tests)) (range_in c c d (le_refl c) (omega tests)))))

-- the least number of a range
range_first : (n : ℕ) (f : ℕ → Bool) (a b : ℕ) → a < b → b ≤ n → ((i : ℕ) → i < n → f i ≡ (leb a i && ltb i b)) → least_below n f ≡ a
range_first n f a b h k t =
    least_is n f a (omega arith) (t a (omega arith) ∙ rw (le-leb a a (le_refl a), lt-ltb a b h)) (λ j p. t j (omega arith) ∙ rw (lt-leb a j p))

-- the first tree with a leaf from lo on: the tree of lo, if lo is a leaf
tree_from : List ℕ → ℕ → ℕ
tree_from ls lo = cond (ltb lo (leaf_start ls (trees_before ls lo))) (trees_before ls lo - 1) (trees_before ls lo)

-- the first tree begins with leaf 0
pub start_zero : (ls : List ℕ) → leaf_start ls 0 ≡ 0
unfolding leaf_start sum_below
start_zero ls = refl

-- a tree's leaves come behind those of the trees before it
pub start_more : (ls : List ℕ) (k : ℕ) → leaf_start ls (k + 1) ≡ leaf_start ls k + get_or ls k 0
unfolding leaf_start
start_more ls k = sum_more k (λ i. get_or ls i 0)

-- the last tree ends with the last leaf
pub start_total : (ls : List ℕ) → leaf_start ls (length ls) ≡ leaf_total ls
unfolding leaf_total
start_total ls = refl

-- no later tree begins earlier
pub start_mono : (ls : List ℕ) (j k : ℕ) → j ≤ k → leaf_start ls j ≤ leaf_start ls k
unfolding leaf_start
start_mono ls j k h = sum_mono j k (λ i. get_or ls i 0) h

module _ (ls : List ℕ) (ok : leaves_ok ls ≡ true) where
  -- K is within its limits
  pub trees_fit : (1 ≤ length ls) × (length ls ≤ max_trees)
  unfolding leaves_ok tree_count_ok
  trees_fit = in_limits 1 (length ls) max_trees (and_fst (tree_count_ok (length ls)) _ ok)

  -- so is each count
  pub count_fits : (k : ℕ) → k < length ls → (1 ≤ get_or ls k 0) × (get_or ls k 0 ≤ max_leaves)
  unfolding leaves_ok
  count_fits k h =
      in_limits 1 (get_or ls k 0) max_leaves (all_at (length ls) (λ i. leb 1 (get_or ls i 0) && leb (get_or ls i 0) max_leaves) (and_snd (tree_count_ok (length ls)) _ ok) k h)

  -- a later tree begins later
  pub start_strict : (j k : ℕ) → j < k → k ≤ length ls → leaf_start ls j < leaf_start ls k
  unfolding leaf_start
  start_strict j k h b = sum_strict j k (λ i. get_or ls i 0) h (λ i p. (count_fits i (omega arith)).0)

  -- no leaf number wraps
  pub start_bound : (k : ℕ) → k ≤ length ls → leaf_start ls k ≤ 2 ^ 44
  unfolding leaf_start
  start_bound k h = omega (arith, trees_fit, sum_le k (λ i. get_or ls i 0) max_leaves (λ i p. (count_fits i (omega arith)).1))

  -- at most all trees begin before leaf l
  before-le : (l : ℕ) → trees_before ls l ≤ length ls
  unfolding trees_before
  before-le l = count_le (length ls) (λ k. ltb (leaf_start ls k) l)

  -- they are the first ones
  before_at : (l k : ℕ) → k < length ls → ltb (leaf_start ls k) l ≡ ltb k (trees_before ls l)
  unfolding trees_before
  before_at l k h =
      prefix_count (length ls) (λ i. ltb (leaf_start ls i) l) (λ i j p q e. omega (tests, lt-ltb, start_mono ls i j p)) k h

  -- each of them begins before l
  begins : (l k : ℕ) → k < trees_before ls l → leaf_start ls k < l
  begins l k h = omega (tests, before_at l k (omega (arith, before-le l)) ∙ lt-ltb k (trees_before ls l) h)

  -- each other begins with l or later
  later : (l k : ℕ) → trees_before ls l ≤ k → k ≤ length ls → l ≤ leaf_total ls → l ≤ leaf_start ls k
  later l k h b n =
      either (ltb k (length ls))
      (λ e. omega (tests, before_at l k (omega tests) ∙ le-ltb k (trees_before ls l) h))
      (λ e. let q : k ≡ length ls = omega tests in rw q (omega (arith, start_total ls)))

  -- a tree that begins with l or later, where all before it begin earlier, has their number
  pub before_is : (l t : ℕ) → t ≤ length ls → ((k : ℕ) → k < t → leaf_start ls k < l) → (t < length ls → l ≤ leaf_start ls t) → trees_before ls l ≡ t
  unfolding trees_before
  before_is l t h low high =
      count_initial (length ls) (λ k. ltb (leaf_start ls k) l) t h
      (λ i p. lt-ltb (leaf_start ls i) l (low i p))
      (λ i p q. le-ltb (leaf_start ls i) l (omega (arith, high (omega arith), start_mono ls t i p)))

  -- before a later leaf no fewer trees begin
  before-mono : (l m : ℕ) → l ≤ m → m ≤ leaf_total ls → trees_before ls l ≤ trees_before ls m
  before-mono l m h b =
      let k = trees_before ls m in
      either (ltb k (trees_before ls l)) (λ e. absurd (omega (tests, begins l k (omega tests), later m k (le_refl k) (before-le m) b))) (λ e. omega tests)

  -- no tree begins before leaf 0
  before_none : trees_before ls 0 ≡ 0
  before_none = before_is 0 0 (omega arith) (λ k h. absurd (omega arith)) (λ h. omega arith)

  -- all trees begin before the end
  before-all : trees_before ls (leaf_total ls) ≡ length ls
  before-all = before_is (leaf_total ls) (length ls) (le_refl (length ls)) (λ k h. rw (← start_total ls) (start_strict k (length ls) h (le_refl (length ls)))) (λ h. absurd (omega arith))

  -- the tree of a leaf is the last that begins before the leaf, or the next
  from-least : (lo : ℕ) → tree_from ls lo ≤ trees_before ls lo
  unfolding tree_from
  from-least lo = either (ltb lo (leaf_start ls (trees_before ls lo))) (λ e. rw e (omega arith)) (λ e. rw e (omega arith))

  from_most : (lo : ℕ) → trees_before ls lo ≤ tree_from ls lo + 1
  unfolding tree_from
  from_most lo = either (ltb lo (leaf_start ls (trees_before ls lo))) (λ e. rw e (omega arith)) (λ e. rw e (omega arith))

  -- it is the last of those exactly where the leaf is not its first
  from-shared : (lo : ℕ) → lo ≤ leaf_total ls → ltb (tree_from ls lo) (trees_before ls lo) ≡ ltb lo (leaf_start ls (trees_before ls lo))
  unfolding tree_from
  from-shared lo h =
      let t = trees_before ls lo in
      either (ltb lo (leaf_start ls t))
      (λ e. rw e (either (ltb 0 t) (λ p. lt-ltb (t - 1) t (omega tests)) (λ p. let q : t ≡ 0 = omega tests in absurd (omega (tests, rw (q, start_zero ls) at e)))))
      (λ e. rw e (le-ltb t t (le_refl t)))

  -- it begins no later than its leaf
  from_start : (lo : ℕ) → lo ≤ leaf_total ls → leaf_start ls (tree_from ls lo) ≤ lo
  from_start lo h =
      let t = trees_before ls lo in
      let f = tree_from ls lo in
      either (ltb f t)
      (λ e. omega (arith, begins lo f (omega tests)))
      (λ e. let q : f ≡ t = omega (tests, from-least lo) in rw q (omega (tests, sym (from-shared lo h) ∙ e)))

  -- it is the first tree that ends behind its leaf
  from_end : (lo k : ℕ) → lo ≤ leaf_total ls → k < length ls → ltb lo (leaf_start ls (k + 1)) ≡ leb (tree_from ls lo) k
  unfolding tree_from
  from_end lo k h b =
      let t = trees_before ls lo in
      either (ltb lo (leaf_start ls t))
      (λ e. rw e (iff_eq (ltb lo (leaf_start ls (k + 1))) (leb (t - 1) k)
      (λ p. either (ltb (k + 1) t) (λ q. absurd (omega (tests, begins lo (k + 1) (omega tests)))) (λ q. le-leb (t - 1) k (omega tests)))
      (λ p. lt-ltb lo (leaf_start ls (k + 1)) (omega (tests, start_mono ls t (k + 1) (omega tests))))))
      (λ e. rw e (iff_eq (ltb lo (leaf_start ls (k + 1))) (leb t k)
      (λ p. either (leb t k) (λ q. q) (λ q. absurd (omega (tests, start_mono ls (k + 1) t (omega tests)))))
      (λ p. lt-ltb lo (leaf_start ls (k + 1)) (omega (tests, later lo k (omega tests) (omega arith) h, start_strict k (k + 1) (omega arith) (omega arith))))))

-- ---- the walk

module _ {ls : List ℕ} {lo k s : ℕ} (w : Walking ls lo k s) where
  -- a walk that has not come to lo is at a tree that begins before lo
  walk_before : s < lo → k < trees_before ls lo
  walk_before h =
      either (ltb k (trees_before ls lo)) (λ e. omega tests)
      (λ e. absurd (omega (arith, w.begins, later ls w.ok lo k (omega tests) (omega (arith, w.passed, before-le ls w.ok lo)) w.within)))

  -- so there is such a tree
  pub walk_at : s < lo → k < length ls
  walk_at h = omega (arith, walk_before h, before-le ls w.ok lo)

  -- its end does not wrap
  pub walk_fits : s < lo → s + get_or ls k 0 ≤ 2 ^ 44
  walk_fits h = omega (arith, w.begins, start_more ls k, start_bound ls w.ok (k + 1) (omega (arith, walk_at h)))

  -- one more turn of the loop
  pub walk_more : s < lo → Walking ls lo (k + 1) (s + get_or ls k 0)
  walk_more h = record { ok = w.ok; within = w.within; passed = omega (arith, walk_before h); begins = omega (arith, w.begins, start_more ls k) }

  pub walk_within : k ≤ length ls
  walk_within = omega (arith, w.passed, before-le ls w.ok lo)

  -- on to tree j, n leaves further, which begins before lo
  pub walk_on : (n j : ℕ) → leaf_start ls k + n ≡ leaf_start ls j → j ≤ length ls → s + n < lo → Walking ls lo j (s + n)
  walk_on n j e h l =
      let passed : j ≤ trees_before ls lo =
      either (ltb j (trees_before ls lo)) (λ t. omega tests) (λ t. absurd (omega (arith, e, w.begins, later ls w.ok lo j (omega tests) h w.within))) in
      record { ok = w.ok; within = w.within; passed = passed; begins = omega (arith, e, w.begins) }

  -- a walk that has come to lo
  pub walk_done : lo ≤ s → k ≡ trees_before ls lo
  walk_done h =
      either (ltb k (trees_before ls lo)) (λ e. absurd (omega (arith, w.begins, begins ls w.ok lo k (omega tests)))) (λ e. omega (tests, w.passed))

-- only the first tree begins with leaf 0
pub begins_later : (ls : List ℕ) (k : ℕ) {s l : ℕ} → s ≡ leaf_start ls k → l < s → 0 < k
begins_later ls zero e h = absurd (omega (arith, start_zero ls))
begins_later ls (suc k) e h = omega arith

-- what the walk finds makes the rank's entry
pub entry_walked : (ls : List ℕ) (lo hi : ℕ) {t s v : ℕ} → t ≡ trees_before ls lo → s ≡ leaf_start ls t → v ≡ shared_entry t s lo hi → v ≡ leaf_entry ls lo hi
unfolding leaf_entry
entry_walked ls lo hi et es ev = ev ∙ rw (es, et)

-- a value between the first and the last of some bounds lies between two in a row
between : (bound : ℕ → ℕ) (P x : ℕ) → bound 0 ≤ x → x < bound P → (p : ℕ) × (p < P) × (bound p ≤ x) × (x < bound (p + 1))
between bound zero x h k = absurd (omega arith)
between bound (suc P) x h k =
    either (ltb x (bound P))
    (λ e. let r = between bound P x h (omega tests) in (r.0, omega (arith, r.1), r.2, r.3))
    (λ e. (P, le_refl (suc P), omega tests, rw add-one k))

-- any bounds that ascend from no leaf to all leaves
module _ (ls : List ℕ) (ok : leaves_ok ls ≡ true) (P : ℕ) (bound : ℕ → ℕ) (from : bound 0 ≡ 0) (to : bound P ≡ leaf_total ls) (mono : (p q : ℕ) → p ≤ q → q ≤ P → bound p ≤ bound q) where
  -- no bound is past the last leaf
  within : (p : ℕ) → p ≤ P → bound p ≤ leaf_total ls
  within p h = rw (← to) (mono p P h (le_refl P))

  -- the trees with a leaf of rank p: none without leaves, else from the tree of the first leaf to the last that begins before the end
  holds-is : (p k : ℕ) → p < P → k < length ls
      → leaf_holds ls bound p k ≡ (ltb (bound p) (bound (p + 1)) && (leb (tree_from ls (bound p)) k && ltb k (trees_before ls (bound (p + 1)))))
  unfolding leaf_holds
  holds-is p k h b =
      ranges_meet (leaf_total ls) (leaf_start ls k) (leaf_start ls (k + 1)) (bound p) (bound (p + 1)) (start_strict ls ok k (k + 1) (omega arith) (omega arith)) (within (p + 1) (omega arith))
      ∙ rw (from_end ls ok (bound p) k (within p (omega arith)) b, before_at ls ok (bound (p + 1)) k b)

  -- a rank without leaves has no trees
  count_empty : (p : ℕ) → p < P → ltb (bound p) (bound (p + 1)) ≡ false → leaf_count ls bound p ≡ 0
  unfolding leaf_count
  count_empty p h e = count_none (length ls) (leaf_holds ls bound p) (λ k b. holds-is p k h b ∙ rw e)

  -- the trees of a rank that has leaves
  module _ (p : ℕ) (h : p < P) (e : ltb (bound p) (bound (p + 1)) ≡ true) where
    -- they begin before they end
    range-starts : tree_from ls (bound p) < trees_before ls (bound (p + 1))
    range-starts =
        let f = tree_from ls (bound p) in
        let t = trees_before ls (bound (p + 1)) in
        either (ltb f t) (λ q. omega tests)
        (λ q. absurd (omega (tests, from_start ls ok (bound p) (within p (omega arith)), later ls ok (bound (p + 1)) f (omega tests) (omega (arith, from-least ls ok (bound p), before-le ls ok (bound p))) (within (p + 1) (omega arith)))))

    -- the first is the tree of the rank's first leaf
    first_is : leaf_first ls bound p ≡ tree_from ls (bound p)
    unfolding leaf_first
    first_is =
        range_first (length ls) (leaf_holds ls bound p) (tree_from ls (bound p)) (trees_before ls (bound (p + 1))) range-starts (before-le ls ok (bound (p + 1)))
        (λ k b. holds-is p k h b ∙ rw e)

    -- how many there are
    count_is : leaf_count ls bound p ≡ trees_before ls (bound (p + 1)) - tree_from ls (bound p)
    unfolding leaf_count
    count_is =
        count_range (length ls) (leaf_holds ls bound p) (tree_from ls (bound p)) (trees_before ls (bound (p + 1))) (omega (arith, range-starts)) (before-le ls ok (bound (p + 1)))
        (λ k b. holds-is p k h b ∙ rw e)

    -- they end with the last tree that begins before the rank's end
    end_is : leaf_first ls bound p + leaf_count ls bound p ≡ trees_before ls (bound (p + 1))
    end_is = omega (arith, first_is, count_is, range-starts)

  -- a rank has trees where it has leaves
  has_trees_lem : (p : ℕ) → p < P → non_empty (leaf_first ls bound) (leaf_count ls bound) p ≡ ltb (bound p) (bound (p + 1))
  unfolding non_empty
  has_trees_lem p h =
      either (ltb (bound p) (bound (p + 1)))
      (λ e. rw e (lt-ltb 0 (leaf_count ls bound p) (omega (arith, count_is p h e, range-starts p h e))))
      (λ e. rw (e, count_empty p h e))

  -- tree k is in f(p) exactly when a leaf of rank p is in k
  pub leaf_on_rank : (p k : ℕ) → p < P → k < length ls → on_rank (leaf_first ls bound) (leaf_count ls bound) p k ≡ leaf_holds ls bound p k
  unfolding on_rank
  leaf_on_rank p k h b =
      either (ltb (bound p) (bound (p + 1)))
      (λ e. rw (end_is p h e, first_is p h e, holds-is p k h b, e))
      (λ e. rw (holds-is p k h b, e) (out_range (leaf_first ls bound p) k (leaf_first ls bound p + leaf_count ls bound p) (λ q. omega (arith, count_empty p h e))))

  -- the trees on lower ranks end with the last that begins before the rank's first leaf
  pub leaf_end : (p : ℕ) → p ≤ P → end_below (leaf_first ls bound) (leaf_count ls bound) p ≡ trees_before ls (bound p)
  unfolding end_below
  leaf_end zero h = rw (from, before_none ls ok)
  leaf_end (suc p) h =
      rw (has_trees_lem p h, ← add-one p)
      (either (ltb (bound p) (bound (p + 1)))
      (λ e. rw e (end_is p h e))
      (λ e. let q : bound p ≡ bound (p + 1) = omega (tests, mono p (p + 1) (omega arith) (omega arith)) in rw (e, ← q) (leaf_end p (omega arith))))

  -- all trees are on the ranks
  pub leaf_end_all : end_below (leaf_first ls bound) (leaf_count ls bound) P ≡ length ls
  leaf_end_all = leaf_end P (le_refl P) ∙ rw (to, before-all ls ok)

  -- the entry, as the walk finds it
  pub leaf_entry_lem : (p : ℕ) → p < P → entry_of (leaf_first ls bound) (leaf_count ls bound) p ≡ leaf_entry ls (bound p) (bound (p + 1))
  unfolding entry_of leaf_entry shared_entry
  leaf_entry_lem p h =
      rw (has_trees_lem p h, leaf_end p (omega arith))
      (either (ltb (bound p) (bound (p + 1))) (λ e. rw (e, first_is p h e, from-shared ls ok (bound p) (within p (omega arith)))) (λ e. rw e))

  -- a tree is on the rank of its first leaf
  all-covered : (k : ℕ) → k < length ls → any_below P (λ p. on_rank (leaf_first ls bound) (leaf_count ls bound) p k) ≡ true
  unfolding leaf_holds
  all-covered k b =
      let s = leaf_start ls k in
      let n : s < leaf_total ls = rw (← start_total ls) (start_strict ls ok k (length ls) b (le_refl (length ls))) in
      let r = between bound P s (rw from (omega arith)) (rw to n) in
      any_intro P (λ p. on_rank (leaf_first ls bound) (leaf_count ls bound) p k) r.0 r.1
      (leaf_on_rank r.0 k r.1 b
      ∙ any_intro (leaf_total ls) (λ l. (leb s l && ltb l (leaf_start ls (k + 1))) && (leb (bound r.0) l && ltb l (bound (r.0 + 1)))) s n
      (and_intro (leb s s && ltb s (leaf_start ls (k + 1))) _
      (range_in s s (leaf_start ls (k + 1)) (le_refl s) (start_strict ls ok k (k + 1) (omega arith) (omega arith)))
      (range_in (bound r.0) s (bound (r.0 + 1)) r.2 r.3)))

  -- no rank has a tree past the last
  only-covered : (p : ℕ) → p < P
      → cond (non_empty (leaf_first ls bound) (leaf_count ls bound) p) (ltb (last_tree (leaf_first ls bound) (leaf_count ls bound) p) (length ls)) true ≡ true
  unfolding last_tree
  only-covered p h =
      rw (has_trees_lem p h)
      (either (ltb (bound p) (bound (p + 1)))
      (λ e. rw e (lt-ltb (leaf_first ls bound p + leaf_count ls bound p - 1) (length ls) (omega (arith, end_is p h e, before-le ls ok (bound (p + 1)), range-starts p h e))))
      (λ e. rw e))

  -- of two ranks that have trees, the last tree of the lower is no later than the first of the higher
  ends-ascend : (p q : ℕ) → p < q → q < P
      → cond (non_empty (leaf_first ls bound) (leaf_count ls bound) p && non_empty (leaf_first ls bound) (leaf_count ls bound) q) (leb (last_tree (leaf_first ls bound) (leaf_count ls bound) p) (leaf_first ls bound q)) true ≡ true
  unfolding last_tree
  ends-ascend p q h k =
      let g : p < P = omega arith in
      rw (has_trees_lem p g, has_trees_lem q k)
      (either (ltb (bound p) (bound (p + 1)))
      (λ d. rw d (either (ltb (bound q) (bound (q + 1)))
      (λ e. rw e (le-leb (leaf_first ls bound p + leaf_count ls bound p - 1) (leaf_first ls bound q)
      (omega (arith, end_is p g d, first_is q k e, from_most ls ok (bound q), before-mono ls ok (bound (p + 1)) (bound q) (mono (p + 1) q (omega arith) (omega arith)) (within q (omega arith))))))
      (λ e. rw e)))
      (λ d. rw d))

  -- the ranges are a valid partition of the trees
  pub leaf_partition : valid_partition (leaf_first ls bound) (leaf_count ls bound) P (length ls) ≡ true
  unfolding valid_partition covers_all covers_only ascending
  leaf_partition =
      rw (all_intro (length ls) _ all-covered, all_intro P _ only-covered, all_intro P _ (λ q k. all_intro q _ (λ p h. ends-ascend p q h k)))

-- ---- the call's bounds

-- equal shares begin with no leaf
pub shares_none : (P : ℕ) (ls : List ℕ) → equal_shares P ls 0 ≡ 0
unfolding equal_shares
shares_none P ls = cut_none (leaf_total ls) P

-- they end with all leaves
pub shares_all : (P : ℕ) (ls : List ℕ) → 0 < P → equal_shares P ls P ≡ leaf_total ls
unfolding equal_shares
shares_all P ls h = cut_all (leaf_total ls) P h

-- they ascend
pub shares_mono : (P : ℕ) (ls : List ℕ) (p q : ℕ) → p ≤ q → q ≤ P → equal_shares P ls p ≤ equal_shares P ls q
unfolding equal_shares
shares_mono P ls p q h _ = cut_mono (leaf_total ls) p q P h

-- as the code works a bound out
pub share_is : (P : ℕ) (ls : List ℕ) (p : ℕ) {n r : ℕ} → n ≡ leaf_total ls → r ≡ cut n p P → r ≡ equal_shares P ls p
unfolding equal_shares
share_is P ls p e q = q ∙ ap (λ m. cut m p P) e

-- ---- the table, written entry by entry

-- bounds that ascend from no leaf to all leaves
pub record Cuts (ls : List ℕ) (P : ℕ) (bound : ℕ → ℕ) : Type 0 where
  pub ok : leaves_ok ls ≡ true
  pub from : bound 0 ≡ 0
  pub to : bound P ≡ leaf_total ls
  pub mono : (p q : ℕ) → p ≤ q → q ≤ P → bound p ≤ bound q

-- equal shares are such bounds
pub shares_cuts : (P : ℕ) (ls : List ℕ) → rank_count_ok P ≡ true → leaves_ok ls ≡ true → Cuts ls P (equal_shares P ls)
shares_cuts P ls h ok = record { ok = ok; from = shares_none P ls; to = shares_all P ls (ranks_within P h).0; mono = shares_mono P ls }

-- the first p entries are written, and the walk is on its way to rank p
pub record Writing (ls : List ℕ) (P : ℕ) (bound : ℕ → ℕ) (out₀ : List ℕ) (p tree start : ℕ) (out : List ℕ) : Type 0 where
  pub reached : p ≤ P
  pub passed : tree ≤ trees_before ls (bound p)
  pub begins : start ≡ leaf_start ls tree
  pub bytes : out ≡ splice out₀ 0 (entries_below (leaf_first ls bound) (leaf_count ls bound) p)
  pub size : length out ≡ length out₀

module _ {ls : List ℕ} {P : ℕ} {bound : ℕ → ℕ} {out₀ : List ℕ} (cuts : Cuts ls P bound) (room : table_length P ≤ length out₀) where
  -- before the loop
  pub writing_none : Writing ls P bound out₀ 0 0 0 out₀
  unfolding entries_below
  writing_none = record { reached = omega arith; passed = omega arith; begins = sym (start_zero ls); bytes = sym (splice_none out₀ 0); size = refl }

  module _ {p tree start : ℕ} {out : List ℕ} (w : Writing ls P bound out₀ p tree start out) where
    -- what the walk to rank p needs
    pub writing_walk : {lo : ℕ} → lo ≡ bound p → Walking ls lo tree start
    writing_walk e =
        rw e (record { ok = cuts.ok; within = within ls cuts.ok P bound cuts.from cuts.to cuts.mono p w.reached; passed = w.passed; begins = w.begins })

    -- one more turn of the loop
    pub writing_more : {lo hi t s : ℕ} {out' : List ℕ} → p < P → lo ≡ bound p → hi ≡ bound (p + 1)
        → t ≡ trees_before ls lo → s ≡ leaf_start ls t → out' ≡ put_u64 out (8 * p) (leaf_entry ls lo hi) → Writing ls P bound out₀ (p + 1) t s out'
    writing_more {lo} {hi} {t} {s} {out'} h el eh et es eo =
        let first = leaf_first ls bound in
        let count = leaf_count ls bound in
        let b : bound (p + 1) ≤ leaf_total ls = within ls cuts.ok P bound cuts.from cuts.to cuts.mono (p + 1) (omega arith) in
        let f : 8 * p + 8 ≤ length out₀ = omega arith in
        let g : 8 * p + 8 ≤ length out = omega (arith, w.size) in
        let m : leaf_entry ls lo hi ≡ entry_of first count p = rw (el, eh) (sym (leaf_entry_lem ls cuts.ok P bound cuts.from cuts.to cuts.mono p h)) in
        record {
          reached = omega arith;
          passed = rw (et, el) (before-mono ls cuts.ok (bound p) (bound (p + 1)) (cuts.mono p (p + 1) (omega arith) (omega arith)) b);
          begins = es;
          bytes = eo ∙ rw (w.bytes, m) (entries_put first count out₀ p (omega arith));
          size = ap length eo ∙ (length_put 8 out (8 * p) (leaf_entry ls lo hi) g ∙ w.size);
        }

    -- behind the loop
    pub writing_done : {v : ℕ} {out' : List ℕ} → P ≤ p → v ≡ length ls → out' ≡ put_u64 out (8 * P) v → out' ≡ splice out₀ 0 (table_of (leaf_first ls bound) (leaf_count ls bound) P)
    writing_done h ev e =
        let first = leaf_first ls bound in
        let count = leaf_count ls bound in
        let f : 8 * P + 8 ≤ length out₀ = omega arith in
        let q : p ≡ P = omega (arith, w.reached) in
        let d : end_below first count P ≡ length ls = leaf_end_all ls cuts.ok P bound cuts.from cuts.to cuts.mono in
        e ∙ rw (w.bytes, q, ev, ← d) (table_put first count out₀ P (omega arith))

pub leaf_table_length : (P : ℕ) (ls : List ℕ) → length (leaf_table P ls) ≡ table_length P
unfolding leaf_table
leaf_table_length P ls = table_length_lem (leaf_first ls (equal_shares P ls)) (leaf_count ls (equal_shares P ls)) P
