-- What the program `plan` answers: its output as a function of what its input was rendered from, and the two calls.
use Rattle.std.specs.Prelude.{ℕ, Bool, cond, ◌&&◌, List, [], ◌∷◌, ◌++◌, leb, eqb, length}
use Rattle.encoding.specs.Refusal.{Check, check, first_failed}
use Rattle.encoding.specs.Answer.{write_answer}
use Rattle.encoding.specs.declared.answer.Length.{Length}
use Rattle.offsets.specs.Table.{table_bytes}
use Rattle.pattern.specs.Calls.{table_checks}
use Rattle.plan_read.specs.Means.{parse}
use Rattle.plan_write.specs.Moves.{plan_ranks, refused_word, line_text, moves_output}

-- P from 1 to the program's own limit
unfoldable pub plan_ranks_ok : ℕ → Bool
plan_ranks_ok P = leb 1 P && leb P plan_ranks

-- ---- what an input says: P, and the entries of the two tables

-- why it is refused: its P, and the two tables
abbrev pub input_checks : ℕ → List ℕ → List ℕ → List Check
input_checks P old new = check (plan_ranks_ok P) 2 ∷ table_checks (table_bytes old) (table_bytes new)

unfoldable pub input_refusal : ℕ → List ℕ → List ℕ → ℕ
input_refusal P old new = first_failed (input_checks P old new)

-- its plan
abbrev pub input_moves : List ℕ → List ℕ → List ℕ
input_moves old new = moves_output (table_bytes old) (table_bytes new)

-- the whole output of the program: the plan, or the line `refused=N`
unfoldable pub input_output : ℕ → List ℕ → List ℕ → List ℕ
input_output P old new = cond (eqb (input_refusal P old new) 0) (input_moves old new) (line_text refused_word (input_refusal P old new))

-- ---- the calls, over any text. That they take from a rendered text what was rendered, and refuse every other text with 1, is `PlanTexts` (Promises.antt)

-- why the text is refused: its form, then what it says
abbrev pub text_checks : List ℕ → List Check
text_checks text = check (parse text).ok 1 ∷ input_checks (parse text).ranks (parse text).old (parse text).new

unfoldable pub plan_refusal : List ℕ → ℕ
plan_refusal text = first_failed (text_checks text)

unfoldable pub plan_moves : List ℕ → List ℕ
plan_moves text = input_moves (parse text).old (parse text).new

-- the plan of a text, written into a lent buffer that has room for it
unfoldable pub plan_answer : List ℕ → List ℕ → Length × List ℕ
plan_answer text out = write_answer (first_failed (text_checks text ++ (check (leb (length (plan_moves text)) (length out)) 22 ∷ []))) (plan_moves text) out

-- the whole output of the program: the plan, or the line `refused=N`
unfoldable pub plan_output : List ℕ → List ℕ
plan_output text = cond (eqb (plan_refusal text) 0) (plan_moves text) (line_text refused_word (plan_refusal text))

-- the same call for it: a refused text has an output too
unfoldable pub plan_output_answer : List ℕ → List ℕ → Length × List ℕ
plan_output_answer text out = write_answer (first_failed (check (leb (length (plan_output text)) (length out)) 22 ∷ [])) (plan_output text) out
