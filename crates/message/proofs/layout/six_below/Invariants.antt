use mathlib.Core.Path.{◌≡◌}
use lib.Dec.{ltb}
use Rattle.encoding.specs.Below.{all_below}
use Rattle.encoding.specs.Pieces.{piece}
use Rattle.records.specs.Record.{core_size, neighbour_of}
use Rattle.message.proofs.layout.six_below.Given as goal

abbrev pub invariant-loop-face : goal.invariant-loop-face
invariant-loop-face l = l.all ≡ all_below l.face (λ f. ltb (neighbour_of (piece l.bs l.at core_size) f) l.below)
