-- What the two calls answer, refusals included, and what they leave in the lent buffer.
use Rattle.std.specs.Prelude.{ℕ, List, [], ◌∷◌, ◌++◌, leb, length}
use Rattle.encoding.specs.Answer.{write_answer}
use Rattle.encoding.specs.Refusal.{check, first_failed}
use Rattle.encoding.specs.declared.answer.Length.{Length}
use Rattle.part.specs.Checks.{rank_checks}
use Rattle.part.specs.Part.{part_sound}
use Rattle.columns_read.specs.Columns.{part_columns, columns_part, columns_sound}

-- a part to its column file, which is as long
unfoldable pub to_columns_refusal : List ℕ → List ℕ → ℕ → List ℕ → ℕ
to_columns_refusal part table rank out =
    first_failed (rank_checks table rank ++ (check (part_sound part table rank) 8 ∷ check (leb (length part) (length out)) 22 ∷ []))

unfoldable pub part_to_columns : List ℕ → List ℕ → ℕ → List ℕ → Length × List ℕ
part_to_columns part table rank out = write_answer (to_columns_refusal part table rank out) (part_columns part) out

-- a column file to its part, which is as long
unfoldable pub to_part_refusal : List ℕ → List ℕ → ℕ → List ℕ → ℕ
to_part_refusal file table rank out =
    first_failed (rank_checks table rank ++ (check (columns_sound file table rank) 33 ∷ check (leb (length file) (length out)) 22 ∷ []))

unfoldable pub columns_to_part : List ℕ → List ℕ → ℕ → List ℕ → Length × List ℕ
columns_to_part file table rank out = write_answer (to_part_refusal file table rank out) (columns_part file) out
