-- What each public call answers, refusals included, and what it leaves in the lent buffer.
use Rattle.std.specs.Prelude.{ℕ, ◌&&◌, List, [], ◌∷◌, ◌++◌, leb, ltb, length}
use Rattle.encoding.specs.Answer.{length_answer, write_answer}
use Rattle.encoding.specs.Refusal.{Check, check, first_failed}
use Rattle.encoding.specs.declared.answer.Length.{Length}
use Rattle.offsets.specs.Table.{ranks}
use Rattle.pattern.specs.Calls.{table_checks}
use Rattle.pattern.specs.Sets.{sends_to}
use Rattle.part.specs.Part.{part_sound}
use Rattle.message.specs.Layout.{in_layout}
use Rattle.message.specs.Reading.{record_count}
use Rattle.message.specs.Build.{part_message}

-- check a message
unfoldable pub message_refusal : List ℕ → ℕ
message_refusal m = first_failed (check (in_layout m) 11 ∷ [])

-- begin to read: how many records there are
unfoldable pub reading_of : List ℕ → Length
reading_of m = length_answer (message_refusal m) (record_count m)

-- the checks of a part, two tables and two ranks: the part is the sender's under the old table
unfoldable pub build_checks : List ℕ → List ℕ → List ℕ → ℕ → ℕ → List Check
build_checks part old new p q =
    table_checks old new
    ++ (check (ltb p (ranks old) && ltb q (ranks old)) 5 ∷ check (part_sound part old p) 8 ∷ check (sends_to old new p q) 9 ∷ [])

-- how long the message is; its length doesn't depend on the epoch
unfoldable pub message_length_of : List ℕ → List ℕ → List ℕ → ℕ → ℕ → Length
message_length_of part old new p q =
    length_answer (first_failed (build_checks part old new p q)) (length (part_message part old new p q 0))

-- build the message
unfoldable pub build_message_of : List ℕ → List ℕ → List ℕ → ℕ → ℕ → ℕ → List ℕ → Length × List ℕ
build_message_of part old new p q epoch out =
    write_answer (first_failed (build_checks part old new p q ++ (check (leb (length (part_message part old new p q epoch)) (length out)) 22 ∷ [])))
    (part_message part old new p q epoch) out
