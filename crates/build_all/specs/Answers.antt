-- Answers as C gets them.
use Rattle.std.specs.Prelude.{Ok, Err}
use Rattle.std.specs.declared.result.Result.{Result}
use Rattle.encoding.specs.declared.refusal.Refusal.{Refusal}
use Rattle.encoding.specs.Refusals.{refusal_number}
use Rattle.build_all.specs.declared.Built.{Built}
use Rattle.build_all.specs.declared.Messages.{Messages}

-- how many messages there are and how long they are together, or the refusal alone
abbrev pub messages_of : Result Built Refusal → Messages
messages_of (Ok b) = record { refusal = 0; count = b.count; length = b.length }
messages_of (Err e) = record { refusal = refusal_number e; count = 0; length = 0 }
