-- Means, no part of what is promised: the table's check in one pass over its entries.
use Rattle.std.specs.Prelude.{ℕ, ◌+◌, Bool, cond, ◌&&◌, List, leb, ltb, eqb}
use Rattle.encoding.specs.Below.{all_below}
use Rattle.offsets.specs.Limits.{tree_count_ok}
use Rattle.offsets.specs.Table.{ranks, entry, trees, negative, magnitude, first_of}

-- an entry v, followed by the entry next, in a table of K trees
unfoldable pub entry_ok : ℕ → ℕ → ℕ → Bool
entry_ok K v next = leb (magnitude v) K && cond (negative v) (ltb (first_of v) (magnitude next)) (leb (first_of v) (magnitude next))

-- entry p of the table t, in a table of K trees
unfoldable pub entry_ok_at : List ℕ → ℕ → ℕ → Bool
entry_ok_at t K p = entry_ok K (entry t p) (entry t (p + 1))

unfoldable pub valid_one_pass : List ℕ → Bool
valid_one_pass t = eqb (entry t 0) 0 && tree_count_ok (trees t) && all_below (ranks t) (entry_ok_at t (trees t))
