-- Kinds, wrongs and places as values of their own, and their numbers.
use Rattle.std.specs.Prelude.{ℕ, Ok, Err, Some, None}
use Rattle.std.specs.declared.result.Result.{Result}
use Rattle.std.specs.declared.option.Option.{Option}
use Rattle.encoding.specs.declared.refusal.Refusal.{Refusal}
use Rattle.encoding.specs.Refusals.{refusal_number}
use Rattle.faults.specs.declared.answer.Kind.{Kind}
use Rattle.faults.specs.declared.answer.Wrong.{Wrong as Told}
use Rattle.faults.specs.declared.answer.Place.{Place}
use Rattle.faults.specs.declared.answer.Fault.{Fault}
use Rattle.faults.specs.Answer.{Wrong, wrong, no_fault, fault_at, fault_refused}

-- the number of a kind
abbrev pub kind_number : Kind → ℕ
kind_number (Kind.First) = 1
kind_number (Kind.Trees) = 2
kind_number (Kind.Entry) = 3
kind_number (Kind.Count) = 4
kind_number (Kind.Empty) = 5
kind_number (Kind.Header) = 6
kind_number (Kind.Number) = 7
kind_number (Kind.Shape) = 8
kind_number (Kind.Bytes) = 9
kind_number (Kind.Unused) = 10
kind_number (Kind.Boundary) = 11
kind_number (Kind.Dimension) = 12
kind_number (Kind.Neighbour) = 13
kind_number (Kind.Orientation) = 14
kind_number (Kind.Corners) = 15
kind_number (Kind.Answer) = 16
kind_number (Kind.Beside) = 17

-- the number of what a check finds; 0 where it passes
abbrev pub kind_of : {T : Type 0} → Result T Kind → ℕ
kind_of (Ok _) = 0
kind_of (Err k) = kind_number k

-- what is wrong at a place, in numbers
abbrev pub wrong_number : Told → Wrong
wrong_number w = wrong (kind_number w.kind) w.face

-- the same of a search; kind 0 where it finds nothing
abbrev pub wrong_of : Option Told → Wrong
wrong_of None = wrong 0 0
wrong_of (Some w) = wrong_number w

-- the place as C gets it
abbrev pub fault_of : Option Place → Fault
fault_of None = no_fault
fault_of (Some p) = fault_at (refusal_number p.fault) p.at (wrong_number p.wrong)

-- the place, or the refusal alone
abbrev pub answer_of : Result (Option Place) Refusal → Fault
answer_of (Ok p) = fault_of p
answer_of (Err e) = fault_refused (refusal_number e)
