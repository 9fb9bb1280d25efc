-- Answers as C gets them.
use Rattle.std.specs.Prelude.{ℕ, ◌^◌, ◌≤◌, ◌<◌, ◌≡◌, Bool, true, List, ltb, pos, length, get_or, take, Some, None, Ok, Err, ⊤}
use Rattle.std.specs.declared.option.Option.{Option}
use Rattle.std.specs.declared.result.Result.{Result}
use Rattle.encoding.specs.declared.refusal.Refusal.{Refusal}
use Rattle.encoding.specs.Refusals.{refusal_number}
use Rattle.pattern.specs.declared.Ranks.{Ranks}
use Rattle.pattern.specs.declared.SenderAnswer.{SenderAnswer}
use Rattle.pattern.specs.Calls.{ranks_answer}
use Rattle.pattern.specs.Sender.{sender_number}

-- a refusal without a sender
abbrev pub sender_refused : ℕ → SenderAnswer
sender_refused refusal = record { refusal = refusal; sender = pos 0 }

-- a refusal without ranks
abbrev pub ranks_refused : ℕ → Ranks
ranks_refused refusal = record { refusal = refusal; count = 0; smallest = pos 0; largest = pos 0 }

-- a tree's sender, or the refusal alone
abbrev pub sender_answer : Result (Option ℕ) Refusal → SenderAnswer
sender_answer (Ok s) = record { refusal = 0; sender = sender_number s }
sender_answer (Err e) = sender_refused (refusal_number e)

-- a set that is the first n ranks of a list, or the refusal alone
abbrev pub ranks_of : Result ℕ Refusal → List ℕ → Ranks
ranks_of (Ok n) list = ranks_answer 0 (take n list)
ranks_of (Err e) list = ranks_refused (refusal_number e)

-- a sender whose number fits 32 bits with a sign
unfoldable pub sender_fits : Option ℕ → Bool
sender_fits (Some p) = ltb p (2 ^ 31)
sender_fits None = true

-- the same, where a sender is answered
abbrev pub SenderFits : Result (Option ℕ) Refusal → Type 0
SenderFits (Ok s) = sender_fits s ≡ true
SenderFits (Err e) = ⊤

-- a list whose length and numbers fit 32 bits with a sign
pub record SmallNumbers (set : List ℕ) : Type 0 where
  pub few : length set < 2 ^ 31
  pub small : (i : ℕ) → i < length set → get_or set i 0 < 2 ^ 31

-- a set whose ranks are the first n of a list
abbrev pub SetFits : Result ℕ Refusal → List ℕ → Type 0
SetFits (Ok n) list = (n ≤ length list) × SmallNumbers (take n list)
SetFits (Err e) list = ⊤
