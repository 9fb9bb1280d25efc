-- A field of a header, or a length: what is due, what stands there, and the first of several that is wrong, as an answer.
use Rattle.std.specs.Prelude.{ℕ, Bool, cond, List, [], ◌∷◌, leb, eqb}
use Rattle.headers.specs.declared.answer.WrongField.{WrongField}

-- its number in the answer, whether it is right, the number due (0 where no single number is) and the number found
pub record Field : Type 0 where
  pub number : ℕ
  pub right : Bool
  pub due : ℕ
  pub found : ℕ

-- one number is right
abbrev pub exactly : ℕ → ℕ → ℕ → Field
exactly number due found = record { number = number; right = eqb found due; due = due; found = found }

-- several numbers are right
abbrev pub one_of : ℕ → Bool → ℕ → Field
one_of number right found = record { number = number; right = right; due = 0; found = found }

-- a length that is right from `due` on
abbrev pub at_least : ℕ → ℕ → ℕ → Field
at_least number due found = record { number = number; right = leb due found; due = due; found = found }

-- the refusal alone
abbrev pub header_refused : ℕ → WrongField
header_refused refusal = record { refusal = refusal; field = 0; due = 0; found = 0 }

-- nothing is wrong
abbrev pub none_wrong : WrongField
none_wrong = header_refused 0

-- a field that is wrong
abbrev pub wrong_at : ℕ → ℕ → ℕ → WrongField
wrong_at number due found = record { refusal = 0; field = number; due = due; found = found }

-- the field if it is wrong, else what is wrong with those after it
unfoldable pub wrong_or : Field → WrongField → WrongField
wrong_or f rest = cond f.right rest (wrong_at f.number f.due f.found)

-- the first field that is wrong
unfoldable pub first_wrong : List Field → WrongField
first_wrong [] = none_wrong
first_wrong (f ∷ fs) = wrong_or f (first_wrong fs)
