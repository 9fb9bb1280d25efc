-- What deliver_all answers, refusals included, and what it leaves in the area and in the lent list.
use Rattle.std.specs.Prelude.{ℕ, cond, ◌&&◌, List, [], ◌∷◌, leb, eqb, length}
use Rattle.encoding.specs.Answer.{written, count_answer}
use Rattle.encoding.specs.Refusal.{check, first_failed}
use Rattle.encoding.specs.declared.answer.Count.{Count}
use Rattle.area.specs.Area.{area_sound}
use Rattle.deliver_all.specs.Messages.{messages_in, area_after_each, answers_of_each}

-- the most messages that a count tells
abbrev pub max_messages : ℕ
max_messages = 4294967295

module _ (a bs answers : List ℕ) where
  -- the area, room for an answer to each message, and no more messages than a count tells
  unfoldable pub deliver_all_refusal : ℕ
  deliver_all_refusal = first_failed (check (area_sound a) 10 ∷ check (leb (length (messages_in bs)) (length answers) && leb (length (messages_in bs)) max_messages) 22 ∷ [])

  -- the number of messages, or the refusal alone
  unfoldable pub deliver_all_count : Count
  deliver_all_count = count_answer deliver_all_refusal (length (messages_in bs))

  -- the area: each message delivered in turn, or as it was
  unfoldable pub deliver_all_area : List ℕ
  deliver_all_area = cond (eqb deliver_all_refusal 0) (area_after_each a (messages_in bs)) a

  -- the call: its answer, the area, and the list with what `deliver` answers to each message
  unfoldable pub deliver_all_of : Count × (List ℕ × List ℕ)
  deliver_all_of = (deliver_all_count, (deliver_all_area, written deliver_all_refusal (answers_of_each a (messages_in bs)) answers))
