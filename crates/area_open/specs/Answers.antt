-- Answers as C gets them.
use Rattle.std.specs.Prelude.{Ok, Err}
use Rattle.std.specs.declared.result.Result.{Result}
use Rattle.encoding.specs.declared.refusal.Refusal.{Refusal}
use Rattle.encoding.specs.Refusals.{refusal_number}
use Rattle.area_open.specs.declared.Senders.{Senders}
use Rattle.area_open.specs.declared.Progress.{Progress}

-- how far an area is, or the refusal alone
abbrev pub progress_from : Result Senders Refusal → Progress
progress_from (Ok s) = record { refusal = 0; heard = s.heard; due = s.due }
progress_from (Err e) = record { refusal = refusal_number e; heard = 0; due = 0 }
