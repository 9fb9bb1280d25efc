-- Laws of blocks: their sums added in pairs are the leaf counts added tree by tree.
use Prim.Native.Nat.{ℕ, zero, suc, ◌+◌, ◌-◌, ◌*◌, ◌≤◌, ◌<◌, min}
use native.Mathlib.Nat.{le_refl}
use native.Mathlib.Numerals.{add-one}
use native.Mathlib.Omega.{arith}
use mathlib.Core.Path.{◌≡◌, refl, sym, ap, ◌∙◌}
use mathlib.Core.Bool.{true, ◌&&◌, and-true}
use mathlib.Core.List.{List, [], ◌∷◌}
use lib.Dec.{eqb, ltb}
use lib.ListN.{length, get_or, get_or-eq_default}
use borrow.Author.Tests.{eqb-true}
use Rattle.encoding.specs.Below.{all_below, sum_below}
use Rattle.encoding.proofs.Below.{tests, either, and_fst, and_snd, all_at, sum_add}
use Rattle.offsets_write.specs.Partition.{table_of}
use Rattle.leaf_shares.specs.Leaves.{leaves_ok, leaf_start, leaf_total, cut, leaf_first, leaf_count, equal_shares, leaf_table}
use Rattle.leaves.specs.Blocks.{block_count, block_sum, sums_ok, pairs, rounds, pair_total, block_shares, block_table}
use Rattle.leaves.specs.Calls.{leaves_refusal, blocks_refusal, table_from_leaves, table_from_blocks}
use Rattle.leaves.specs.Promises.{PairsAdd, BlocksAgree, BlocksAnswer}
use Rattle.leaves.specs.Means.{Adding, AllSums}
use Rattle.leaf_shares.proofs.LeafCounts.{start_zero, start_more, start_total, start_mono, start_bound, trees_fit}

-- ---- a list's sum, from its front

start_cons : (x : ℕ) (xs : List ℕ) (n : ℕ) → leaf_start (x ∷ xs) (suc n) ≡ x + leaf_start xs n
unfolding leaf_start sum_below
start_cons x xs zero = omega arith
start_cons x xs (suc n) = let i = start_cons x xs n in omega arith

total_cons : (x : ℕ) (xs : List ℕ) → leaf_total (x ∷ xs) ≡ x + leaf_total xs
unfolding leaf_total
total_cons x xs = start_cons x xs (length xs)

total_none : leaf_total [] ≡ 0
unfolding leaf_total
total_none = start_zero []

-- ---- pairs

pairs_total : (xs : List ℕ) → leaf_total (pairs xs) ≡ leaf_total xs
unfolding pairs
pairs_total [] = refl
pairs_total (a ∷ []) = refl
pairs_total (a ∷ b ∷ rest) =
    let i = pairs_total rest in
    total_cons (a + b) (pairs rest) ∙ omega (arith, total_cons a (b ∷ rest), total_cons b rest)

rounds_total : (n : ℕ) (xs : List ℕ) → leaf_total (rounds n xs) ≡ leaf_total xs
unfolding rounds
rounds_total zero xs = refl
rounds_total (suc n) xs = rounds_total n (pairs xs) ∙ pairs_total xs

pairs_le : (xs : List ℕ) → length (pairs xs) ≤ length xs
unfolding pairs
pairs_le [] = le_refl 0
pairs_le (a ∷ []) = le_refl 1
pairs_le (a ∷ b ∷ rest) = let i = pairs_le rest in omega arith

-- each round leaves fewer, down to one
pairs_fewer : (n : ℕ) (xs : List ℕ) → length xs ≤ suc (suc n) → length (pairs xs) ≤ suc n
unfolding pairs
pairs_fewer n [] h = omega arith
pairs_fewer n (a ∷ []) h = omega arith
pairs_fewer n (a ∷ b ∷ rest) h = let i = pairs_le rest in omega arith

rounds_one : (n : ℕ) (xs : List ℕ) → length xs ≤ suc n → length (rounds n xs) ≤ 1
unfolding rounds
rounds_one zero xs h = h
rounds_one (suc n) xs h = rounds_one n (pairs xs) (pairs_fewer n xs h)

-- a list of one number, or of none
one_total : (xs : List ℕ) → length xs ≤ 1 → get_or xs 0 0 ≡ leaf_total xs
one_total [] h = sym total_none
one_total (a ∷ []) h = sym (total_cons a [] ∙ omega (arith, total_none))
one_total (a ∷ b ∷ rest) h = absurd (omega arith)

-- adding in pairs is adding
pub pair_total_lem : (sums : List ℕ) → pair_total sums ≡ leaf_total sums
unfolding pair_total
pair_total_lem sums = one_total (rounds (length sums) sums) (rounds_one (length sums) sums (omega arith)) ∙ rounds_total (length sums) sums

-- ---- blocks

-- the leaves before a block, and those of the block
start_block : (ls : List ℕ) (b : ℕ) → leaf_start ls (256 * b + 256) ≡ leaf_start ls (256 * b) + block_sum ls b
unfolding leaf_start block_sum
start_block ls b = sum_add (256 * b) 256 (λ i. get_or ls i 0)

-- no leaf comes behind the last tree
start_behind : (ls : List ℕ) (d : ℕ) → leaf_start ls (length ls + d) ≡ leaf_total ls
start_behind ls zero = let e : length ls + 0 ≡ length ls = omega arith in rw e (start_total ls)
start_behind ls (suc d) =
    let e : length ls + suc d ≡ length ls + d + 1 = omega arith in
    let z : get_or ls (length ls + d) 0 ≡ 0 = get_or-eq_default ls 0 (omega arith) in
    rw e (omega (arith, start_more ls (length ls + d), start_behind ls d))

start_past : (ls : List ℕ) (k : ℕ) → length ls ≤ k → leaf_start ls k ≡ leaf_total ls
start_past ls k h = let e : k ≡ length ls + (k - length ls) = omega arith in rw e (start_behind ls (k - length ls))

start_end : (ls : List ℕ) (b : ℕ) {i : ℕ} → 256 * b ≤ length ls → i ≡ 256 * b + min (length ls - 256 * b) 256 → leaf_start ls i ≡ leaf_start ls (256 * b + 256)
start_end ls b {i} h q =
    either (ltb (length ls - 256 * b) 256)
    (λ e. let f : i ≡ length ls = omega tests in rw f (start_total ls ∙ sym (start_past ls (256 * b + 256) (omega tests))))
    (λ e. let f : i ≡ 256 * b + 256 = omega tests in rw f)

-- what the loop over a block finds
pub block_sum_is : (ls : List ℕ) (b : ℕ) {n i : ℕ} → 256 * b ≤ length ls → leaf_start ls (256 * b) + n ≡ leaf_start ls i → i ≡ 256 * b + min (length ls - 256 * b) 256 → n ≡ block_sum ls b
block_sum_is ls b {n} {i} h e q = omega (arith, start_end ls b h q, start_block ls b)

module _ (ls sums : List ℕ) (ok : sums_ok ls sums ≡ true) where
  -- as many sums as blocks
  pub sums_count : length sums ≡ block_count (length ls)
  unfolding sums_ok
  sums_count = eqb-true (length sums) (block_count (length ls)) (and_fst _ (all_below (length sums) (λ b. eqb (get_or sums b 0) (block_sum ls b))) ok)

  -- each is its block's
  sum_is : (b : ℕ) → b < length sums → get_or sums b 0 ≡ block_sum ls b
  unfolding sums_ok
  sum_is b h =
      eqb-true (get_or sums b 0) (block_sum ls b) (all_at (length sums) (λ i. eqb (get_or sums i 0) (block_sum ls i)) (and_snd (eqb (length sums) (block_count (length ls))) _ ok) b h)

  -- the leaves before a block are the sums before it
  sums-start : (b : ℕ) → b ≤ length sums → leaf_start sums b ≡ leaf_start ls (256 * b)
  sums-start zero h = start_zero sums ∙ sym (start_zero ls)
  sums-start (suc b) h =
      let i = sums-start b (omega arith) in
      let s = sum_is b h in
      let e : 256 * suc b ≡ 256 * b + 256 = omega arith in
      rw (e, ← add-one b) (omega (arith, start_more sums b, start_block ls b))

  pub sums_total : leaf_total sums ≡ leaf_total ls
  unfolding block_count
  sums_total =
      let c = sums_count in
      sym (start_total sums) ∙ (sums-start (length sums) (le_refl (length sums)) ∙ start_past ls (256 * length sums) (omega arith))

-- ---- what is promised

pub pairs_add : PairsAdd
pairs_add ls sums ok = pair_total_lem sums ∙ sums_total ls sums ok

pub blocks_agree : BlocksAgree
unfolding block_shares block_table equal_shares leaf_table
blocks_agree P ls sums ok =
    let e = pairs_add ls sums ok in
    ((λ p. ap (λ n. cut n p P) e), ap (λ n. table_of (leaf_first ls (λ p. cut n p P)) (leaf_count ls (λ p. cut n p P)) P) e)

pub blocks_answer : BlocksAnswer
unfolding table_from_blocks table_from_leaves blocks_refusal leaves_refusal
blocks_answer P ls sums out ok = rw (ok, and-true, (blocks_agree P ls sums ok).1)

-- ---- for the code

-- all sums together fit
pub all_sums : (ls sums : List ℕ) → (leaves_ok ls && sums_ok ls sums) ≡ true → AllSums sums
unfolding block_count
all_sums ls sums ok =
    let lo = and_fst (leaves_ok ls) (sums_ok ls sums) ok in
    let so = and_snd (leaves_ok ls) (sums_ok ls sums) ok in
    let c = sums_count ls sums so in
    let k = trees_fit ls lo in
    record {
      some = omega arith;
      most = omega arith;
      fits = rw (sums_total ls sums so, ← start_total ls) (start_bound ls lo (length ls) (le_refl (length ls)));
    }

module _ {sums : List ℕ} {size from to : ℕ} (a : Adding sums size from to) where
  -- a lone sum
  pub adding_one : to - from < 2 → leaf_start sums from + get_or sums from 0 ≡ leaf_start sums to
  adding_one h = let e : to ≡ from + 1 = omega (arith, a.some) in rw e (sym (start_more sums from))

  -- all in the first half
  pub adding_half : {half : ℕ} → to - from ≤ half → Adding sums half from to
  adding_half h = record { some = a.some; within = a.within; most = omega (arith, a.some); fits = a.fits }

  -- the two halves
  pub adding_low : {half : ℕ} → 0 < half → half < to - from → Adding sums half from (from + half)
  adding_low {half} k h =
      record { some = omega arith; within = omega (arith, a.within); most = le_refl (from + half); fits = omega (arith, a.fits, start_mono sums (from + half) to (omega arith)) }

  pub adding_high : {half : ℕ} → size ≤ half + half → half < to - from → Adding sums half (from + half) to
  adding_high k h = record { some = omega arith; within = a.within; most = omega (arith, a.most); fits = a.fits }

-- all sums, from the first
pub adding_all : (sums : List ℕ) → AllSums sums → Adding sums 4096 0 (length sums)
adding_all sums a = record { some = a.some; within = le_refl (length sums); most = omega (arith, a.most); fits = rw (start_total sums) a.fits }

pub adding_done : (sums : List ℕ) {r : ℕ} → leaf_start sums 0 + r ≡ leaf_start sums (length sums) → r ≡ pair_total sums
adding_done sums e = omega (arith, start_zero sums, start_total sums, pair_total_lem sums)
