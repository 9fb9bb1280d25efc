use Rattle.part.specs.Means.{neighbour_in}
use Rattle.records.specs.Record.{core_size}
use Rattle.encoding.specs.Pieces.{piece}
use Rattle.encoding.specs.Below.{any_below}
use mathlib.Core.Bool.{false}
use mathlib.Core.Path.{◌≡◌}
use Rattle.part.proofs.range.beside.Given as goal

abbrev pub invariant-loop-face : goal.invariant-loop-face
invariant-loop-face l = any_below l.face (neighbour_in l.first l.end (piece l.bs l.at core_size)) ≡ false
