-- Means, no part of what is promised: what writing by weights takes, and how sums of blocks are added.
use Rattle.std.specs.Prelude.{ℕ, ◌+◌, ◌^◌, ◌≤◌, ◌<◌, ◌≡◌, true, List, length}
use Rattle.offsets.specs.Limits.{rank_count_ok}
use Rattle.offsets.specs.Table.{table_length}
use Rattle.leaf_shares.specs.Leaves.{leaves_ok, leaf_start, leaf_total}
use Rattle.leaves.specs.Weighted.{weights_ok}

-- what writing the table of unequal shares takes
pub record WeightedWritable (ws ls : List ℕ) (N : ℕ) (out : List ℕ) : Type 0 where
  pub ranks_fit : rank_count_ok (length ws) ≡ true
  pub weights_fit : weights_ok ws ≡ true
  pub leaves_fit : leaves_ok ls ≡ true
  pub total : N ≡ leaf_total ls
  pub room : table_length (length ws) ≤ length out

-- sums from one number up to another, at most `size` of them, are to be added; leaf_start of sums is the sum of those before
pub record Adding (sums : List ℕ) (size from to : ℕ) : Type 0 where
  pub some : from < to
  pub within : to ≤ length sums
  pub most : to ≤ from + size
  pub fits : leaf_start sums to ≤ 2 ^ 44

-- the sums of all blocks
pub record AllSums (sums : List ℕ) : Type 0 where
  pub some : 0 < length sums
  pub most : length sums ≤ 4096
  pub fits : leaf_total sums ≤ 2 ^ 44
