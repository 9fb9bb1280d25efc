-- Refusals as values of their own, and their numbers.
use Rattle.std.specs.Prelude.{ℕ, Ok, Err}
use Rattle.std.specs.declared.result.Result.{Result}
use Rattle.encoding.specs.declared.answer.Length.{Length}
use Rattle.encoding.specs.declared.answer.Count.{Count}
use Rattle.encoding.specs.Answer.{length_refused, count_refused}
use Rattle.encoding.specs.declared.refusal.Refusal.{Refusal}

-- the number of the check that failed
abbrev pub refusal_number : Refusal → ℕ
refusal_number (Refusal.Input) = 1
refusal_number (Refusal.Ranks) = 2
refusal_number (Refusal.Table) = 3
refusal_number (Refusal.Differ) = 4
refusal_number (Refusal.Index) = 5
refusal_number (Refusal.Partition) = 6
refusal_number (Refusal.Mesh) = 7
refusal_number (Refusal.Part) = 8
refusal_number (Refusal.Nothing) = 9
refusal_number (Refusal.Area) = 10
refusal_number (Refusal.Layout) = 11
refusal_number (Refusal.Run) = 12
refusal_number (Refusal.Receiver) = 13
refusal_number (Refusal.Sender) = 14
refusal_number (Refusal.Heard) = 15
refusal_number (Refusal.Trees) = 16
refusal_number (Refusal.Ghosts) = 17
refusal_number (Refusal.Held) = 18
refusal_number (Refusal.Missing) = 20
refusal_number (Refusal.Join) = 21
refusal_number (Refusal.Buffer) = 22
refusal_number (Refusal.String) = 23
refusal_number (Refusal.Shape) = 24
refusal_number (Refusal.Leaves) = 25
refusal_number (Refusal.Extent) = 26
refusal_number (Refusal.Text) = 27
refusal_number (Refusal.Twice) = 28
refusal_number (Refusal.Edge) = 29
refusal_number (Refusal.Weights) = 30
refusal_number (Refusal.Probe) = 31
refusal_number (Refusal.Box) = 32
refusal_number (Refusal.Columns) = 33
refusal_number (Refusal.Occupied) = 64
refusal_number (Refusal.Range) = 65

-- the number of a checked value's refusal; 0 where it is accepted
abbrev pub refusal_of : {T : Type 0} → Result T Refusal → ℕ
refusal_of (Ok _) = 0
refusal_of (Err e) = refusal_number e

-- a length as C gets it
abbrev pub length_of : Result ℕ Refusal → Length
length_of (Ok n) = record { refusal = 0; length = n }
length_of (Err e) = length_refused (refusal_number e)

-- a count as C gets it
abbrev pub count_of : Result ℕ Refusal → Count
count_of (Ok n) = record { refusal = 0; count = n }
count_of (Err e) = count_refused (refusal_number e)
