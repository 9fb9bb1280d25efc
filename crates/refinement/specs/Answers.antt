-- The answer as C gets it.
use Rattle.std.specs.Prelude.{Ok, Err}
use Rattle.std.specs.declared.result.Result.{Result}
use Rattle.encoding.specs.declared.refusal.Refusal.{Refusal}
use Rattle.encoding.specs.Refusals.{refusal_number}
use Rattle.refinement.specs.declared.LeafCount.{LeafCount}
use Rattle.refinement.specs.declared.Leaves.{Leaves}
use Rattle.refinement.specs.Calls.{leaves_refused}

-- a tree's leaves, or the refusal alone
abbrev pub leaves_of : Result LeafCount Refusal → Leaves
leaves_of (Ok c) = record { refusal = 0; upright = c.upright; inverted = c.inverted; leaves = c.leaves }
leaves_of (Err e) = leaves_refused (refusal_number e)
