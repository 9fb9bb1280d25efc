-- Means, no part of what is promised: the walk over the trees by which leaf counts become a table.
use Rattle.std.specs.Prelude.{ℕ, ◌-◌, ◌^◌, ◌≤◌, ◌≡◌, Bool, true, cond, ◌&&◌, List, leb, ltb, length}
use Rattle.encoding.specs.Below.{count_below}
use Rattle.offsets.specs.Limits.{rank_count_ok}
use Rattle.offsets.specs.Table.{table_length}
use Rattle.leaf_shares.specs.Leaves.{max_leaves, leaves_ok, leaf_start, leaf_total}

-- a count within its limits
abbrev pub count_ok : ℕ → Bool
count_ok x = leb 1 x && leb x max_leaves

-- how many trees begin before leaf l
unfoldable pub trees_before : List ℕ → ℕ → ℕ
trees_before ls l = count_below (length ls) (λ k. ltb (leaf_start ls k) l)

-- the entry of a rank with leaves lo up to, but without, hi, where `tree` trees begin before lo and the next one at start
unfoldable pub shared_entry : ℕ → ℕ → ℕ → ℕ → ℕ
shared_entry tree start lo hi = cond (ltb lo hi && ltb lo start) (2 ^ 64 - tree) tree

unfoldable pub leaf_entry : List ℕ → ℕ → ℕ → ℕ
leaf_entry ls lo hi = shared_entry (trees_before ls lo) (leaf_start ls (trees_before ls lo)) lo hi

-- a walk towards leaf lo: all trees that it passed begin before lo
pub record Walking (ls : List ℕ) (lo tree start : ℕ) : Type 0 where
  pub ok : leaves_ok ls ≡ true
  pub within : lo ≤ leaf_total ls
  pub passed : tree ≤ trees_before ls lo
  pub begins : start ≡ leaf_start ls tree

-- what writing the table takes: P and the counts within their limits, N, and room
pub record Writable (P : ℕ) (ls : List ℕ) (N : ℕ) (out : List ℕ) : Type 0 where
  pub ranks_fit : rank_count_ok P ≡ true
  pub leaves_fit : leaves_ok ls ≡ true
  pub total : N ≡ leaf_total ls
  pub room : table_length P ≤ length out
