use mathlib.Core.Path.{◌≡◌}
use Rattle.encoding.specs.Below.{any_below}
use Rattle.columns_read.specs.Columns.{spaced}
use Rattle.records.specs.Record.{core_size}
use Rattle.part.specs.Means.{neighbour_in}
use Rattle.columns_check.proofs.sound.beside.Given as goal

abbrev pub invariant-loop-face : goal.invariant-loop-face
invariant-loop-face l =
    l.met ≡ any_below l.face (neighbour_in l.first l.end (spaced l.file l.at l.step core_size))
