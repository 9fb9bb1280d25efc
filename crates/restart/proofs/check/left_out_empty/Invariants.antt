use mathlib.Core.Path.{◌≡◌}
use mathlib.Core.Bool.{true}
use Rattle.encoding.specs.Below.{all_below}
use Rattle.restart.specs.Restart.{in_or_empty}
use Rattle.restart.proofs.check.left_out_empty.Given as goal

abbrev pub invariant-loop-rank : goal.invariant-loop-rank
invariant-loop-rank l = all_below l.rank (in_or_empty l.table l.n) ≡ true
