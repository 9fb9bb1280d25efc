-- Means, no part of what is promised: what the checks of fields tell.
use Rattle.std.specs.Prelude.{true, false, ◌≡◌, Ok, Err}
use Rattle.std.specs.declared.result.Result.{Result}
use Rattle.headers.specs.declared.answer.Wrong.{Wrong}
use Rattle.headers.specs.declared.answer.WrongField.{WrongField}
use Rattle.headers.specs.Answer.{Field, none_wrong, wrong_at}
use Rattle.headers.specs.Answers.{wrong_number}

-- the field passes, or it is what is told
abbrev pub Checked : Field → Result (Unit {0}) Wrong → Type 0
Checked f (Ok _) = f.right ≡ true
Checked f (Err w) = (f.right ≡ false) × (wrong_number w ≡ wrong_at f.number f.due f.found)

-- what the checks of several fields tell, in numbers
abbrev pub checked_of : Result (Unit {0}) Wrong → WrongField
checked_of (Ok _) = none_wrong
checked_of (Err w) = wrong_number w
