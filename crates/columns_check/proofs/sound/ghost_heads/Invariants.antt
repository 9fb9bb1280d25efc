use Rattle.columns_check.specs.MeansFiles.{ghost_head_of}
use mathlib.Core.Path.{◌≡◌}
use mathlib.Core.Bool.{true}
use Rattle.encoding.specs.Below.{all_below}
use Rattle.columns_check.proofs.sound.ghost_heads.Given as goal

abbrev pub invariant-loop-j : goal.invariant-loop-j
invariant-loop-j l =
    all_below l.j (ghost_head_of l.columns) ≡ true
