-- What each public call answers, refusals included, and what it leaves in the lent buffer.
use Rattle.std.specs.Prelude.{ℕ, cond, List, [], ◌∷◌, ◌++◌, leb, ltb, eqb, length}
use Rattle.encoding.specs.Answer.{written}
use Rattle.encoding.specs.Refusal.{Check, check, first_failed}
use Rattle.offsets.specs.Table.{ranks}
use Rattle.pattern.specs.Calls.{table_checks}
use Rattle.pattern.specs.Sets.{send_set}
use Rattle.part.specs.Part.{part_sound}
use Rattle.build_all.specs.declared.Messages.{Messages}
use Rattle.build_all.specs.Messages.{all_messages}

-- the checks of a part, two tables and the sender: the part is the sender's under the old table
unfoldable pub build_all_checks : List ℕ → List ℕ → List ℕ → ℕ → List Check
build_all_checks part old new p = table_checks old new ++ (check (ltb p (ranks old)) 5 ∷ check (part_sound part old p) 8 ∷ [])

-- how many messages, and how long they are together, or the refusal alone
unfoldable pub messages_answer : ℕ → ℕ → ℕ → Messages
messages_answer refusal count n =
    cond (eqb refusal 0) (record { refusal = 0; count = count; length = n }) (record { refusal = refusal; count = 0; length = 0 })

module _ (part old new : List ℕ) (p : ℕ) where
  -- how many messages there are and how long they are; their length doesn't depend on the epoch
  unfoldable pub build_all_length_of : Messages
  build_all_length_of =
      messages_answer (first_failed (build_all_checks part old new p)) (length (send_set old new p)) (length (all_messages part old new p 0))

  module _ (epoch : ℕ) (out : List ℕ) where
    unfoldable pub build_all_refusal : ℕ
    build_all_refusal = first_failed (build_all_checks part old new p ++ (check (leb (length (all_messages part old new p epoch)) (length out)) 22 ∷ []))

    -- build them: an empty send set gives no message and no refusal
    unfoldable pub build_all_of : Messages × List ℕ
    build_all_of = (
      messages_answer build_all_refusal (length (send_set old new p)) (length (all_messages part old new p epoch)),
      written build_all_refusal (all_messages part old new p epoch) out,
    )
