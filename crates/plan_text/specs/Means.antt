-- Means, no part of what is promised: the call once the tables are read.
use Rattle.std.specs.Prelude.{ℕ, List, [], ◌∷◌, ◌++◌, leb, length}
use Rattle.encoding.specs.Answer.{write_answer}
use Rattle.encoding.specs.Refusal.{check, first_failed}
use Rattle.encoding.specs.declared.answer.Length.{Length}
use Rattle.pattern.specs.Calls.{table_checks}
use Rattle.plan_write.specs.Moves.{moves_output}

-- the plan of two tables
unfoldable pub tables_answer : List ℕ → List ℕ → List ℕ → Length × List ℕ
tables_answer old new out = write_answer (first_failed (table_checks old new ++ (check (leb (length (moves_output old new)) (length out)) 22 ∷ []))) (moves_output old new) out
