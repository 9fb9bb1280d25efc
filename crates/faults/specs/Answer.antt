-- The first of several places that is wrong, as an answer.
use Rattle.std.specs.Prelude.{ℕ, Bool, cond, not, eqb}
use Rattle.encoding.specs.Below.{any_below, least_below}
use Rattle.faults.specs.declared.answer.Fault.{Fault}

-- what is wrong at a place: the kind, 0 for nothing, and the face, 0 where the kind has none
pub record Wrong : Type 0 where
  pub kind : ℕ
  pub face : ℕ

abbrev pub wrong : ℕ → ℕ → Wrong
wrong kind face = record { kind = kind; face = face }

-- the kind is that of a fault
abbrev pub is_fault : ℕ → Bool
is_fault kind = not (eqb kind 0)

-- the refusal alone
abbrev pub fault_refused : ℕ → Fault
fault_refused refusal = record { refusal = refusal; fault = 0; kind = 0; at = 0; face = 0 }

-- a sound object
abbrev pub no_fault : Fault
no_fault = fault_refused 0

-- what is wrong at the place, of an object that its check refuses with this number
abbrev pub fault_at : ℕ → ℕ → Wrong → Fault
fault_at fault at w = record { refusal = 0; fault = fault; kind = w.kind; at = at; face = w.face }

-- the least of n places at which something is wrong, n where nothing is
unfoldable pub first_place : ℕ → (ℕ → Wrong) → ℕ
first_place n at = least_below n (λ i. is_fault (at i).kind)

-- what is wrong at that place; no fault where nothing is
unfoldable pub first_fault : ℕ → ℕ → (ℕ → Wrong) → Fault
first_fault fault n at =
    cond (any_below n (λ i. is_fault (at i).kind)) (fault_at fault (first_place n at) (at (first_place n at))) no_fault
