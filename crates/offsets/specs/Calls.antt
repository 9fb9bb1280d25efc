-- What each public call answers, refusals included.
use Rattle.std.specs.Prelude.{ℕ, cond, List, [], ◌∷◌, ltb, eqb}
use Rattle.encoding.specs.Refusal.{check, first_failed}
use Rattle.offsets.specs.declared.Range.{Range}
use Rattle.offsets.specs.Table.{ranks, ranks_ok, valid, first_tree, tree_count}

-- the refusal alone
abbrev pub range_refused : ℕ → Range
range_refused refusal = record { refusal = refusal; first = 0; count = 0 }

-- a range, or the refusal alone
unfoldable pub range_answer : ℕ → ℕ → ℕ → Range
range_answer refusal first count =
    cond (eqb refusal 0) (record { refusal = 0; first = first; count = count }) (range_refused refusal)

-- check a table
unfoldable pub table_refusal : List ℕ → ℕ
table_refusal t = first_failed (check (ranks_ok t) 2 ∷ check (valid t) 3 ∷ [])

-- a rank's range
unfoldable pub range_refusal : List ℕ → ℕ → ℕ
range_refusal t p = first_failed (check (ranks_ok t) 2 ∷ check (valid t) 3 ∷ check (ltb p (ranks t)) 5 ∷ [])

unfoldable pub table_range : List ℕ → ℕ → Range
table_range t p = range_answer (range_refusal t p) (first_tree t p) (tree_count t p)
