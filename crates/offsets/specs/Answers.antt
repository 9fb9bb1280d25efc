-- Answers as C gets them.
use Rattle.std.specs.Prelude.{Ok, Err}
use Rattle.std.specs.declared.result.Result.{Result}
use Rattle.encoding.specs.declared.refusal.Refusal.{Refusal}
use Rattle.encoding.specs.Refusals.{refusal_number}
use Rattle.offsets.specs.declared.Trees.{Trees}
use Rattle.offsets.specs.declared.Range.{Range}
use Rattle.offsets.specs.Calls.{range_refused}

-- a rank's trees, or the refusal alone
abbrev pub range_of : Result Trees Refusal → Range
range_of (Ok t) = record { refusal = 0; first = t.first; count = t.count }
range_of (Err e) = range_refused (refusal_number e)
