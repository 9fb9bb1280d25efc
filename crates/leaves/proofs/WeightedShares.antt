-- Laws of weights and of the shares that they give.
use Prim.Native.Nat.{ℕ, zero, suc, ◌+◌, ◌-◌, ◌*◌, ◌/◌, ◌^◌, ◌≤◌, ◌<◌}
use native.Mathlib.Nat.{le_refl, mul-le-mul_right, div-eq_of_lt, div-lt_iff_lt-mul, lt-div-mul-add, mul-add-div_right, le-div_iff_mul-le, div-mul-le_self, div-div-eq-div-mul}
use native.Mathlib.Numerals.{add-one}
use native.Mathlib.Omega.{arith}
use mathlib.Core.Path.{◌≡◌, refl, sym, ap, ap₂, ◌∙◌}
use mathlib.Core.Logic.{inl, inr}
use mathlib.Core.Bool.{true, false, ◌&&◌, and-false}
use mathlib.Core.List.{List}
use lib.Dec.{leb, ltb}
use lib.ListN.{length, get_or}
use borrow.Author.Tests.{ltb-true, leb-true, lt-ltb, le-leb}
use Rattle.encoding.specs.Answer.{write_answer}
use Rattle.encoding.specs.Refusal.{first_failed}
use Rattle.encoding.specs.Below.{all_below, any_below, count_below, least_below, sum_below}
use Rattle.encoding.proofs.Below.{tests, either, clash, and_fst, and_snd, and_intro, all_at, all_intro, any_none, sum_more, sum_mono, sum_le}
use Rattle.offsets.specs.Limits.{rank_count_ok}
use Rattle.offsets.specs.Table.{table_length, first_tree, end_tree, tree_count, holds}
use Rattle.offsets.proofs.Tables.{ranks_within}
use Rattle.offsets_write.specs.Partition.{table_of}
use Rattle.offsets_write.proofs.Partitions.{table_length_lem, same_ranges}
use Rattle.leaf_shares.specs.Leaves.{leaves_ok, leaf_start, leaf_total, cut, leaf_holds, leaf_first, leaf_count, equal_shares, leaf_table}
use Rattle.leaf_shares.proofs.LeafCounts.{cut_none, cut_all, cut_mono, Cuts, out_range}
use Rattle.leaves.specs.Weighted.{max_weight, weight_before, weight_total, weights_ok, weighted_shares, share_of, weighted_table}
use Rattle.leaves.specs.Calls.{leaves_refusal, table_from_leaves, weights_refusal, table_from_weights}
use Rattle.leaves.specs.Promises.{HoldsLeaves, WeightedHolds, SharesRounded, WeightlessEmpty, EqualWeights}
use Rattle.leaves.proofs.LeafTables.{cuts_table}

-- ---- sums of weights

pub weight_none : (ws : List ℕ) → weight_before ws 0 ≡ 0
unfolding weight_before sum_below
weight_none ws = refl

pub weight_more : (ws : List ℕ) (p : ℕ) → weight_before ws (p + 1) ≡ weight_before ws p + get_or ws p 0
unfolding weight_before
weight_more ws p = sum_more p (λ i. get_or ws i 0)

pub weight_all : (ws : List ℕ) → weight_before ws (length ws) ≡ weight_total ws
unfolding weight_total
weight_all ws = refl

pub weight_mono : (ws : List ℕ) (p q : ℕ) → p ≤ q → weight_before ws p ≤ weight_before ws q
unfolding weight_before
weight_mono ws p q h = sum_mono p q (λ i. get_or ws i 0) h

pub weight_le : (ws : List ℕ) (p : ℕ) → p ≤ length ws → weight_before ws p ≤ weight_total ws
weight_le ws p h = omega (arith, weight_mono ws p (length ws) h, weight_all ws)

module _ (ws : List ℕ) (ok : weights_ok ws ≡ true) where
  -- not all are 0
  pub weight_some : 0 < weight_total ws
  unfolding weights_ok
  weight_some = ltb-true 0 (weight_total ws) (and_snd (all_below (length ws) (λ p. leb (get_or ws p 0) max_weight)) _ ok)

  -- no weight is above its limit
  pub weight_small : (p : ℕ) → p < length ws → get_or ws p 0 ≤ max_weight
  unfolding weights_ok
  weight_small p h =
      leb-true (get_or ws p 0) max_weight (all_at (length ws) (λ i. leb (get_or ws i 0) max_weight) (and_fst _ (ltb 0 (weight_total ws)) ok) p h)

  -- so W is small enough for the cut
  pub weight_fits : rank_count_ok (length ws) ≡ true → weight_total ws < 2 ^ 32
  unfolding weight_total weight_before
  weight_fits ro = omega (arith, ranks_within (length ws) ro, sum_le (length ws) (λ i. get_or ws i 0) max_weight weight_small)

-- ---- the shares

pub weighted_none : (ws ls : List ℕ) → weighted_shares ws ls 0 ≡ 0
unfolding weighted_shares
weighted_none ws ls = rw (weight_none ws) (cut_none (leaf_total ls) (weight_total ws))

-- as the code works a bound out
pub weighted_is : (ws ls : List ℕ) (p : ℕ) {n v w r : ℕ} → n ≡ leaf_total ls → v ≡ weight_before ws p → w ≡ weight_total ws → r ≡ cut n v w → r ≡ weighted_shares ws ls p
unfolding weighted_shares
weighted_is ws ls p en ev ew er = er ∙ rw (en, ev, ew)

-- they ascend from no leaf to all leaves
pub weighted_cuts : (ws ls : List ℕ) → weights_ok ws ≡ true → leaves_ok ls ≡ true → Cuts ls (length ws) (weighted_shares ws ls)
unfolding weighted_shares
weighted_cuts ws ls wo ok =
    record {
      ok = ok;
      from = weighted_none ws ls;
      to = rw (weight_all ws) (cut_all (leaf_total ls) (weight_total ws) (weight_some ws wo));
      mono = λ p q h _. cut_mono (leaf_total ls) (weight_before ws p) (weight_before ws q) (weight_total ws) (weight_mono ws p q h);
    }

pub weighted_length : (ws ls : List ℕ) → length (weighted_table ws ls) ≡ table_length (length ws)
unfolding weighted_table
weighted_length ws ls = table_length_lem (leaf_first ls (weighted_shares ws ls)) (leaf_count ls (weighted_shares ws ls)) (length ws)

module _ (ws ls : List ℕ) (ro : rank_count_ok (length ws) ≡ true) (wo : weights_ok ws ≡ true) (ok : leaves_ok ls ≡ true) where
  weights-written : (out : List ℕ) → table_length (length ws) ≤ length out → table_from_weights ws ls out ≡ write_answer 0 (weighted_table ws ls) out
  unfolding table_from_weights weights_refusal first_failed
  weights-written out room = rw (ro, wo, ok, le-leb (table_length (length ws)) (length out) room)

  weighted-held : HoldsLeaves (length ws) ls (weighted_shares ws ls) (weighted_table ws ls)
  unfolding weighted_table
  weighted-held = cuts_table ls (length ws) (weighted_shares ws ls) ro (weighted_cuts ws ls wo ok)

pub weighted_holds : WeightedHolds
weighted_holds ws ls ro wo ok = (weights-written ws ls ro wo ok, weighted-held ws ls ro wo ok)

-- ---- a share is rounded down or up

-- the quotient of a sum
div_low : (a b w : ℕ) → 0 < w → a / w + b / w ≤ (a + b) / w
div_low a b w h = (le-div_iff_mul-le h).1 (omega (arith, div-mul-le_self a w, div-mul-le_self b w))

div_high : (a b w : ℕ) → 0 < w → (a + b) / w ≤ a / w + (b + (w - 1)) / w
div_high a b w h =
    let x = a / w in
    let c = (b + (w - 1)) / w in
    let l : (a + b) / w < x + c + 1 = (div-lt_iff_lt-mul h).1 (omega (arith, lt-div-mul-add {a = a} h, lt-div-mul-add {a = b + (w - 1)} h)) in
    omega arith

-- up is at most one above down
div_near : (b w : ℕ) → 0 < w → (b + (w - 1)) / w ≤ b / w + 1
div_near b w h =
    let l : (b + (w - 1)) / w < b / w + 2 = (div-lt_iff_lt-mul h).1 (omega (arith, lt-div-mul-add {a = b} h)) in
    omega arith

-- of v + x parts and v parts of w
cut_step : (n v x w : ℕ) → 0 < w → (n * x / w ≤ cut n (v + x) w - cut n v w) × (cut n (v + x) w - cut n v w ≤ (n * x + (w - 1)) / w)
unfolding cut
cut_step n v x w h =
    let a = n * v + (w - 1) in
    let b = n * x in
    let e : n * (v + x) + (w - 1) ≡ a + b = omega arith in
    rw e (omega (arith, div_low a b w h), omega (arith, div_high a b w h))

pub shares_rounded : SharesRounded
unfolding share_of weighted_shares
shares_rounded ws ls wo p h =
    let N = leaf_total ls in
    let x = get_or ws p 0 in
    let W = weight_total ws in
    let s = cut_step N (weight_before ws p) x W (weight_some ws wo) in
    let d = cut N (weight_before ws p + x) W - cut N (weight_before ws p) W in
    rw (weight_more ws p)
    (either (leb d (N * x / W))
    (λ e. inl (omega (tests, s.0)))
    (λ e. inr (omega (tests, s.1, div_near (N * x) W (weight_some ws wo)))))

-- ---- no weight, no tree

same_share : (ws ls : List ℕ) (p q : ℕ) → weight_before ws p ≡ weight_before ws q → weighted_shares ws ls p ≡ weighted_shares ws ls q
unfolding weighted_shares
same_share ws ls p q e = rw e

none_left : (ws ls : List ℕ) (p : ℕ) → weighted_shares ws ls (p + 1) ≡ weighted_shares ws ls p → share_of ws ls p ≡ 0
unfolding share_of
none_left ws ls p e = omega arith

-- a rank without leaves has a leaf in no tree
no_leaf : (ls : List ℕ) (bound : ℕ → ℕ) (p k : ℕ) → bound (p + 1) ≡ bound p → leaf_holds ls bound p k ≡ false
unfolding leaf_holds
no_leaf ls bound p k e =
    any_none (leaf_total ls) (λ l. (leb (leaf_start ls k) l && ltb l (leaf_start ls (k + 1))) && (leb (bound p) l && ltb l (bound (p + 1))))
    (λ l h. let f : (leb (bound p) l && ltb l (bound (p + 1))) ≡ false = rw e (out_range (bound p) l (bound p) (λ q. q)) in rw (f, and-false))

-- a range that holds nothing is empty
none_held : (t : List ℕ) (p : ℕ) → ((k : ℕ) → holds t p k ≡ false) → tree_count t p ≡ 0
unfolding holds tree_count
none_held t p none =
    either (ltb (first_tree t p) (end_tree t p))
    (λ e. clash (rw (le-leb (first_tree t p) (first_tree t p) (le_refl (first_tree t p))) e) (none (first_tree t p)))
    (λ e. omega tests)

pub weightless_empty : WeightlessEmpty
weightless_empty ws ls ro wo ok p h z =
    let q : weight_before ws (p + 1) ≡ weight_before ws p = omega (arith, weight_more ws p) in
    let e : weighted_shares ws ls (p + 1) ≡ weighted_shares ws ls p = same_share ws ls (p + 1) p q in
    let none : (k : ℕ) → holds (weighted_table ws ls) p k ≡ false = λ k. (weighted-held ws ls ro wo ok).held p k h ∙ no_leaf ls (weighted_shares ws ls) p k e in
    (none_left ws ls p e, none_held (weighted_table ws ls) p none, none)

-- ---- equal weights

-- parts and whole made of c each
cut_parted : (n v w c : ℕ) → cut n (v * (c + 1)) ((w + 1) * (c + 1)) ≡ cut n v (w + 1)
unfolding cut
cut_parted n v w c =
    let x = n * v + (w + 1 - 1) in
    let k : 0 < c + 1 = omega arith in
    let f : (w + 1) * (c + 1) ≡ w * c + w + c + 1 = omega arith in
    let z : w + 1 - 1 ≡ w = omega arith in
    let g : x * (c + 1) ≡ n * v * c + n * v + w * c + w = ap (λ y. (n * v + y) * (c + 1)) z ∙ omega arith in
    let h : n * (v * (c + 1)) ≡ n * v * c + n * v = omega arith in
    let e : n * (v * (c + 1)) + ((w + 1) * (c + 1) - 1) ≡ x * (c + 1) + c = omega (arith, f, g, h) in
    let m : (w + 1) * (c + 1) ≡ (c + 1) * (w + 1) = omega arith in
    let q : (x * (c + 1) + c) / (c + 1) ≡ x = mul-add-div_right k x c ∙ (ap (λ y. x + y) (div-eq_of_lt (omega arith)) ∙ omega arith) in
    ap₂ (λ y z. y / z) e m ∙ (sym (div-div-eq-div-mul (x * (c + 1) + c) (c + 1) (w + 1)) ∙ ap (λ y. y / (w + 1)) q)

cut_scaled : (n v w c : ℕ) → 0 < w → 0 < c → cut n (v * c) (w * c) ≡ cut n v w
cut_scaled n v w c h k =
    let ew : w ≡ w - 1 + 1 = omega arith in
    let ec : c ≡ c - 1 + 1 = omega arith in
    ap₂ (λ y z. cut n (v * z) (y * z)) ew ec ∙ (cut_parted n v (w - 1) (c - 1) ∙ ap (λ y. cut n v y) (sym ew))

weight_equal : (ws : List ℕ) (c : ℕ) → ((p : ℕ) → p < length ws → get_or ws p 0 ≡ c) → (p : ℕ) → p ≤ length ws → weight_before ws p ≡ p * c
weight_equal ws c all zero h = weight_none ws ∙ omega arith
weight_equal ws c all (suc p) h =
    let i = weight_equal ws c all p (omega arith) in
    let g = all p h in
    rw (← add-one p) (weight_more ws p ∙ omega arith)

-- what a rank has depends on its two bounds
same_first : (ls : List ℕ) (b d : ℕ → ℕ) (p : ℕ) → b p ≡ d p → b (p + 1) ≡ d (p + 1) → leaf_first ls b p ≡ leaf_first ls d p
unfolding leaf_first leaf_holds
same_first ls b d p e f =
    ap₂ (λ x y. least_below (length ls) (λ k. any_below (leaf_total ls) (λ l. (leb (leaf_start ls k) l && ltb l (leaf_start ls (k + 1))) && (leb x l && ltb l y)))) e f

same_count : (ls : List ℕ) (b d : ℕ → ℕ) (p : ℕ) → b p ≡ d p → b (p + 1) ≡ d (p + 1) → leaf_count ls b p ≡ leaf_count ls d p
unfolding leaf_count leaf_holds
same_count ls b d p e f =
    ap₂ (λ x y. count_below (length ls) (λ k. any_below (leaf_total ls) (λ l. (leb (leaf_start ls k) l && ltb l (leaf_start ls (k + 1))) && (leb x l && ltb l y)))) e f

-- so the table depends on the bounds of its ranks
pub same_bounds : (ls : List ℕ) (P : ℕ) (b d : ℕ → ℕ) → ((p : ℕ) → p ≤ P → b p ≡ d p) → table_of (leaf_first ls b) (leaf_count ls b) P ≡ table_of (leaf_first ls d) (leaf_count ls d) P
same_bounds ls P b d h =
    same_ranges (leaf_first ls b) (leaf_count ls b) (leaf_first ls d) (leaf_count ls d) P
    (λ p l. (same_count ls b d p (h p (omega arith)) (h (p + 1) (omega arith)), λ _. same_first ls b d p (h p (omega arith)) (h (p + 1) (omega arith))))

equal_bounds : (ws ls : List ℕ) (c : ℕ) → 0 < c → 0 < length ws → ((p : ℕ) → p < length ws → get_or ws p 0 ≡ c) → (p : ℕ) → p ≤ length ws → weighted_shares ws ls p ≡ equal_shares (length ws) ls p
unfolding weighted_shares equal_shares
equal_bounds ws ls c h k all p l =
    rw (← weight_all ws, weight_equal ws c all p l, weight_equal ws c all (length ws) (le_refl (length ws))) (cut_scaled (leaf_total ls) p (length ws) c k h)

no_ranks : (ls : List ℕ) (b d : ℕ → ℕ) (P : ℕ) → P ≡ 0 → table_of (leaf_first ls b) (leaf_count ls b) P ≡ table_of (leaf_first ls d) (leaf_count ls d) P
no_ranks ls b d P e = same_ranges (leaf_first ls b) (leaf_count ls b) (leaf_first ls d) (leaf_count ls d) P (λ p l. absurd (omega arith))

module _ (ws ls : List ℕ) (c : ℕ) (h : 0 < c) (all : (p : ℕ) → p < length ws → get_or ws p 0 ≡ c) where
  same-table : weighted_table ws ls ≡ leaf_table (length ws) ls
  unfolding weighted_table leaf_table
  same-table =
      either (ltb 0 (length ws))
      (λ e. same_bounds ls (length ws) (weighted_shares ws ls) (equal_shares (length ws) ls) (equal_bounds ws ls c h (omega tests) all))
      (λ e. no_ranks ls (weighted_shares ws ls) (equal_shares (length ws) ls) (length ws) (omega tests))

  -- such weights pass their check where there are ranks
  equal-pass : c ≤ max_weight → 0 < length ws → weights_ok ws ≡ true
  unfolding weights_ok weight_total
  equal-pass m k =
      and_intro (all_below (length ws) (λ p. leb (get_or ws p 0) max_weight)) (ltb 0 (weight_before ws (length ws)))
      (all_intro (length ws) (λ p. leb (get_or ws p 0) max_weight) (λ p l. rw (all p l) (le-leb c max_weight m)))
      (lt-ltb 0 (weight_before ws (length ws)) (rw (weight_equal ws c all (length ws) (le_refl (length ws))) (omega (arith, mul-le-mul_right c k))))

  same_answer : c ≤ max_weight → (out : List ℕ) → table_from_weights ws ls out ≡ table_from_leaves (length ws) ls out
  unfolding table_from_weights weights_refusal table_from_leaves leaves_refusal first_failed
  same_answer m out =
      either (rank_count_ok (length ws))
      (λ e. rw (same-table, e, equal-pass m (ranks_within (length ws) e).0))
      (λ e. rw (same-table, e))

pub equal_weights : EqualWeights
equal_weights ws ls c h all = (same-table ws ls c h all, same_answer ws ls c h all)
