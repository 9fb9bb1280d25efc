use Rattle.plan_read.specs.Means.{value_of}
use Rattle.plan_read.specs.Text.{number_limit}
use Rattle.encoding.specs.Pieces.{piece}
use mathlib.Core.Path.{◌≡◌}
use Prim.Native.Nat.{◌<◌}
use Rattle.plan_read.proofs.number.digits_value.Given as goal

abbrev pub invariant-loop-b : goal.invariant-loop-b
invariant-loop-b l = (l.v ≡ value_of 0 (piece l.text l.at l.b-index)) × (l.v < number_limit)
