-- What the public calls answer, refusals included, and what they leave in the lent buffer.
use Rattle.std.specs.Prelude.{ℕ, List, [], ◌∷◌, ◌&&◌, leb, length}
use Rattle.encoding.specs.Refusal.{check, first_failed}
use Rattle.encoding.specs.Answer.{write_answer}
use Rattle.encoding.specs.declared.answer.Length.{Length}
use Rattle.offsets.specs.Limits.{rank_count_ok}
use Rattle.offsets.specs.Table.{table_length}
use Rattle.leaf_shares.specs.Leaves.{leaves_ok, leaf_table}
use Rattle.leaves.specs.Weighted.{weights_ok, weighted_table}
use Rattle.leaves.specs.Blocks.{sums_ok, block_table}

-- write the table that leaf counts give
unfoldable pub leaves_refusal : ℕ → List ℕ → List ℕ → ℕ
leaves_refusal P ls out =
    first_failed (check (rank_count_ok P) 2 ∷ check (leaves_ok ls) 6 ∷ check (leb (table_length P) (length out)) 22 ∷ [])

unfoldable pub table_from_leaves : ℕ → List ℕ → List ℕ → Length × List ℕ
table_from_leaves P ls out = write_answer (leaves_refusal P ls out) (leaf_table P ls) out

-- write the table that leaf counts give to ranks of unequal speed: 30 after 2 and before 6
unfoldable pub weights_refusal : List ℕ → List ℕ → List ℕ → ℕ
weights_refusal ws ls out =
    first_failed (check (rank_count_ok (length ws)) 2 ∷ check (weights_ok ws) 30 ∷ check (leaves_ok ls) 6 ∷ check (leb (table_length (length ws)) (length out)) 22 ∷ [])

unfoldable pub table_from_weights : List ℕ → List ℕ → List ℕ → Length × List ℕ
table_from_weights ws ls out = write_answer (weights_refusal ws ls out) (weighted_table ws ls) out

-- write the table that leaf counts with their blocks' sums give
unfoldable pub blocks_refusal : ℕ → List ℕ → List ℕ → List ℕ → ℕ
blocks_refusal P ls sums out =
    first_failed (check (rank_count_ok P) 2 ∷ check (leaves_ok ls && sums_ok ls sums) 6 ∷ check (leb (table_length P) (length out)) 22 ∷ [])

unfoldable pub table_from_blocks : ℕ → List ℕ → List ℕ → List ℕ → Length × List ℕ
table_from_blocks P ls sums out = write_answer (blocks_refusal P ls sums out) (block_table P ls sums) out
