-- Why a call declines.
use Rattle.std.specs.Prelude.{ℕ, Bool, cond, List, [], ◌∷◌}

-- a check of document 01's list, in which document 02's requests have their numbers at the places that they name: whether it passes, over all inputs of the call, and its number there
pub record Check : Type 0 where
  pub passes : Bool
  pub number : ℕ

abbrev pub check : Bool → ℕ → Check
check b n = record { passes = b; number = n }

-- the number of the first check that fails; 0 where all pass
unfoldable pub first_failed : List Check → ℕ
first_failed [] = 0
first_failed (c ∷ cs) = cond c.passes (first_failed cs) c.number
