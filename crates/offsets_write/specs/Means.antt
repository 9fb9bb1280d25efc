-- Means, no part of what is promised: the code that checks ranges and writes their table goes rank by rank and carries `end`, one past the last tree on the ranks below.
use Rattle.std.specs.Prelude.{ℕ, ◌+◌, ◌-◌, ◌^◌, Bool, cond, ◌&&◌, ◌||◌, List, leb, ltb, eqb, length}
use Rattle.encoding.specs.Below.{all_below}
use Rattle.offsets.specs.Limits.{rank_count_ok, tree_count_ok}
use Rattle.offsets.specs.Table.{table_length}
use Rattle.offsets_write.specs.Partition.{end_below}

-- the checks that every call makes that writes a table, each alone
abbrev pub ranks_refusal : ℕ → ℕ
ranks_refusal P = cond (rank_count_ok P) 0 2

abbrev pub room_refusal : ℕ → List ℕ → ℕ
room_refusal P out = cond (leb (table_length P) (length out)) 0 22

-- a rank is empty, or begins at the end, or one tree before it
unfoldable pub range_fits : ℕ → ℕ → ℕ → Bool
range_fits end first count = eqb count 0 || eqb first end || eqb (first + 1) end

-- the end after the rank
unfoldable pub next_end : ℕ → ℕ → ℕ → ℕ
next_end end first count = cond (ltb 0 count) (first + count) end

-- the rank's entry
unfoldable pub next_entry : ℕ → ℕ → ℕ → ℕ
next_entry end first count = cond (ltb 0 count && ltb first end) (2 ^ 64 - end) end

module _ (first count : ℕ → ℕ) where
  -- each rank follows the ranks below it
  unfoldable pub ranks_follow : ℕ → Bool
  ranks_follow P = all_below P (λ p. range_fits (end_below first count p) (first p) (count p))

  -- and the trees are within their limits
  unfoldable pub ranges_fit_linear : ℕ → Bool
  ranges_fit_linear P = ranks_follow P && tree_count_ok (end_below first count P)
