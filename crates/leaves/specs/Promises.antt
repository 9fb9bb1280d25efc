-- What is promised of the tables that leaf counts give.
use Rattle.std.specs.Prelude.{ℕ, ◌+◌, ◌-◌, ◌*◌, ◌/◌, ◌≤◌, ◌<◌, ◌≡◌, ◌⊎◌, true, false, List, length, get_or}
use Rattle.encoding.specs.Answer.{write_answer}
use Rattle.encoding.specs.Pieces.{Bytes}
use Rattle.offsets.specs.Limits.{rank_count_ok}
use Rattle.offsets.specs.Table.{table_length, ranks, trees, tree_count, holds}
use Rattle.offsets.specs.Calls.{table_refusal}
use Rattle.leaf_shares.specs.Leaves.{leaves_ok, leaf_total, leaf_holds, equal_shares, leaf_table}
use Rattle.leaves.specs.Weighted.{max_weight, weight_total, weights_ok, weighted_shares, share_of, weighted_table}
use Rattle.leaves.specs.Blocks.{sums_ok, pair_total, block_shares, block_table}
use Rattle.leaves.specs.Calls.{table_from_leaves, table_from_weights, table_from_blocks}

-- t is a table that the check call accepts, of P ranks and of one tree for each leaf count;
-- tree k is in f(p) exactly when a leaf of rank p is in k, for every k. Rank p has the leaves from bound p up to, but without, bound (p + 1)
pub record HoldsLeaves (P : ℕ) (ls : List ℕ) (bound : ℕ → ℕ) (t : List ℕ) : Type 0 where
  pub bytes : Bytes t
  pub accepted : table_refusal t ≡ 0
  pub ranks_are : ranks t ≡ P
  pub trees_are : trees t ≡ length ls
  pub held : (p k : ℕ) → p < P → holds t p k ≡ leaf_holds ls bound p k

-- the call writes such a table for these counts, into any buffer that is long enough
abbrev pub MakesTable : ℕ → List ℕ → Type 0
MakesTable P ls =
    ((out : List ℕ) → table_length P ≤ length out → table_from_leaves P ls out ≡ write_answer 0 (leaf_table P ls) out)
    × HoldsLeaves P ls (equal_shares P ls) (leaf_table P ls)

-- from leaf counts: it does so for every P and all counts within their limits
abbrev pub LeafTables : Type 0
LeafTables = (P : ℕ) (ls : List ℕ) → rank_count_ok P ≡ true → leaves_ok ls ≡ true → MakesTable P ls

-- ---- C-16: ranks of unequal speed

-- likewise by weights
abbrev pub WeightedHolds : Type 0
WeightedHolds =
    (ws ls : List ℕ) → rank_count_ok (length ws) ≡ true → weights_ok ws ≡ true → leaves_ok ls ≡ true
    → ((out : List ℕ) → table_length (length ws) ≤ length out → table_from_weights ws ls out ≡ write_answer 0 (weighted_table ws ls) out)
    × HoldsLeaves (length ws) ls (weighted_shares ws ls) (weighted_table ws ls)

-- a rank's share is N × w / W, rounded down or rounded up
abbrev pub SharesRounded : Type 0
SharesRounded =
    (ws ls : List ℕ) → weights_ok ws ≡ true → (p : ℕ) → p < length ws
    → (share_of ws ls p ≡ leaf_total ls * get_or ws p 0 / weight_total ws) ⊎ (share_of ws ls p ≡ (leaf_total ls * get_or ws p 0 + (weight_total ws - 1)) / weight_total ws)

-- a rank of weight 0 gets no leaf, and has no tree
abbrev pub WeightlessEmpty : Type 0
WeightlessEmpty =
    (ws ls : List ℕ) → rank_count_ok (length ws) ≡ true → weights_ok ws ≡ true → leaves_ok ls ≡ true → (p : ℕ) → p < length ws → get_or ws p 0 ≡ 0
    → (share_of ws ls p ≡ 0) × (tree_count (weighted_table ws ls) p ≡ 0) × ((k : ℕ) → holds (weighted_table ws ls) p k ≡ false)

-- equal weights above 0 give the table of equal shares, as bytes; within the limit of a weight, the calls answer and write the same, refusals included
abbrev pub EqualWeights : Type 0
EqualWeights =
    (ws ls : List ℕ) (c : ℕ) → 0 < c → ((p : ℕ) → p < length ws → get_or ws p 0 ≡ c)
    → (weighted_table ws ls ≡ leaf_table (length ws) ls) × (c ≤ max_weight → (out : List ℕ) → table_from_weights ws ls out ≡ table_from_leaves (length ws) ls out)

-- ---- C-19: leaf totals by blocks, for any number of trees

-- the total is that of adding tree by tree
abbrev pub PairsAdd : Type 0
PairsAdd = (ls sums : List ℕ) → sums_ok ls sums ≡ true → pair_total sums ≡ leaf_total ls

-- so is every cut, and every table
abbrev pub BlocksAgree : Type 0
BlocksAgree =
    (P : ℕ) (ls sums : List ℕ) → sums_ok ls sums ≡ true
    → ((p : ℕ) → block_shares P sums p ≡ equal_shares P ls p) × (block_table P ls sums ≡ leaf_table P ls)

-- with the right sums, the answer and the buffer are those of the call without sums
abbrev pub BlocksAnswer : Type 0
BlocksAnswer = (P : ℕ) (ls sums out : List ℕ) → sums_ok ls sums ≡ true → table_from_blocks P ls sums out ≡ table_from_leaves P ls out
