-- What each call answers, refusals included, and what it leaves in the lent buffer.
use Rattle.std.specs.Prelude.{ℕ, ◌&&◌, List, [], ◌∷◌, ◌++◌, leb, ltb, eqb, length}
use Rattle.encoding.specs.Answer.{write_answer}
use Rattle.encoding.specs.Refusal.{Check, check, first_failed}
use Rattle.encoding.specs.declared.answer.Length.{Length}
use Rattle.offsets.specs.Limits.{rank_count_ok}
use Rattle.offsets.specs.Table.{table_length, ranks, ranks_ok, valid, tree_count}
use Rattle.mesh.specs.Mesh.{dimension_ok}
use Rattle.part.specs.Layout.{part_header}
use Rattle.part.specs.Part.{part_sound}
use Rattle.restart.specs.Restart.{padded_table, left_out_empty, empty_part, same_trees, relabelled}

-- the checks of a table and a number of ranks
unfoldable pub pad_checks : List ℕ → ℕ → List Check
pad_checks table n = check (ranks_ok table && rank_count_ok n) 2 ∷ check (valid table) 3 ∷ check (left_out_empty table n) 64 ∷ []

-- the table of n ranks
unfoldable pub pad_table : List ℕ → ℕ → List ℕ → Length × List ℕ
pad_table table n out =
    write_answer (first_failed (pad_checks table n ++ (check (leb (table_length n) (length out)) 22 ∷ []))) (padded_table table n) out

-- the checks of a table, a rank and a dimension
unfoldable pub empty_checks : List ℕ → ℕ → ℕ → List Check
empty_checks table rank dimension =
    check (ranks_ok table) 2
    ∷ check (valid table) 3
    ∷ check (ltb rank (ranks table) && dimension_ok dimension) 5
    ∷ check (eqb (tree_count table rank) 0) 64
    ∷ []

-- the part of a rank without trees
unfoldable pub empty_part_of : List ℕ → ℕ → ℕ → List ℕ → Length × List ℕ
empty_part_of table rank dimension out =
    write_answer (first_failed (empty_checks table rank dimension ++ (check (leb part_header (length out)) 22 ∷ []))) (empty_part table rank dimension) out

-- the checks of two tables, each with its rank
unfoldable pub pair_checks : List ℕ → ℕ → List ℕ → ℕ → List Check
pair_checks table rank other q =
    check (ranks_ok table && ranks_ok other) 2
    ∷ check (valid table && valid other) 3
    ∷ check (ltb rank (ranks table) && ltb q (ranks other)) 5
    ∷ []

-- and of a part for the first of them
unfoldable pub relabel_checks : List ℕ → List ℕ → ℕ → List ℕ → ℕ → List Check
relabel_checks part table rank other q =
    pair_checks table rank other q ++ (check (part_sound part table rank) 8 ∷ check (same_trees table rank other q) 65 ∷ [])

-- the part under the other table and rank
unfoldable pub relabel_part : List ℕ → List ℕ → ℕ → List ℕ → ℕ → List ℕ → Length × List ℕ
relabel_part part table rank other q out =
    write_answer (first_failed (relabel_checks part table rank other q ++ (check (leb (length part) (length out)) 22 ∷ []))) (relabelled part other q) out
