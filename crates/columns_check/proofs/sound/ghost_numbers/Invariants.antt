use Rattle.columns_read.specs.MeansFiles.{ghost_of}
use mathlib.Core.Path.{◌≡◌}
use mathlib.Core.Bool.{true}
use Rattle.encoding.specs.Below.{all_below}
use Rattle.part_check.specs.Means.{ghost_numbered}
use Rattle.columns_check.proofs.sound.ghost_numbers.Given as goal

abbrev pub invariant-loop-j : goal.invariant-loop-j
invariant-loop-j l =
    all_below l.j (ghost_numbered l.columns.first l.columns.count (ghost_of l.columns) l.columns.trees) ≡ true
