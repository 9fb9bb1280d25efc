-- The checks of a table and a rank, with which most calls on parts begin.
use Rattle.std.specs.Prelude.{ℕ, List, [], ◌∷◌, ltb}
use Rattle.encoding.specs.Refusal.{Check, check}
use Rattle.offsets.specs.Table.{ranks, ranks_ok, valid}

-- the checks of a table and a rank
unfoldable pub rank_checks : List ℕ → ℕ → List Check
rank_checks table rank = check (ranks_ok table) 2 ∷ check (valid table) 3 ∷ check (ltb rank (ranks table)) 5 ∷ []
