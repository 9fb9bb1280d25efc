-- Means, no part of what is promised: the kinds of a count.
use Rattle.std.specs.Prelude.{ℕ, cond, not, ◌||◌, leb, ltb}
use Rattle.offsets.specs.Table.{negative, first_of}

-- of a rank with the entry v, up to, but without, tree `end`: 4 where the count is negative, 5 where the rank is empty and its entry negative
unfoldable pub count_kind : ℕ → ℕ → ℕ
count_kind v end = cond (leb (first_of v) end) (cond (not (negative v) || ltb (first_of v) end) 0 5) 4
