-- Fields and what is wrong with one as values of their own, and as C gets them.
use Rattle.std.specs.Prelude.{ℕ, Ok, Err, Some, None}
use Rattle.std.specs.declared.result.Result.{Result}
use Rattle.std.specs.declared.option.Option.{Option}
use Rattle.encoding.specs.declared.refusal.Refusal.{Refusal}
use Rattle.encoding.specs.Refusals.{refusal_number}
use Rattle.headers.specs.declared.answer.Field.{Field}
use Rattle.headers.specs.declared.answer.Wrong.{Wrong}
use Rattle.headers.specs.declared.answer.WrongField.{WrongField}
use Rattle.headers.specs.Answer.{header_refused, none_wrong, wrong_at}

-- the number of a field
abbrev pub field_number : Field → ℕ
field_number (Field.Short) = 1
field_number (Field.Dimension) = 2
field_number (Field.Trees) = 3
field_number (Field.Ranks) = 4
field_number (Field.Rank) = 5
field_number (Field.First) = 6
field_number (Field.Count) = 7
field_number (Field.Zero) = 8
field_number (Field.Length) = 9

-- the number due; 0 where no single number is
abbrev pub due_number : Option ℕ → ℕ
due_number None = 0
due_number (Some n) = n

-- what is wrong, in numbers
abbrev pub wrong_number : Wrong → WrongField
wrong_number w = wrong_at (field_number w.field) (due_number w.due) w.found

-- the same where something may be wrong
abbrev pub wrong_of : Option Wrong → WrongField
wrong_of None = none_wrong
wrong_of (Some w) = wrong_number w

-- the same, or the refusal alone
abbrev pub answer_of : Result (Option Wrong) Refusal → WrongField
answer_of (Ok w) = wrong_of w
answer_of (Err e) = header_refused (refusal_number e)
