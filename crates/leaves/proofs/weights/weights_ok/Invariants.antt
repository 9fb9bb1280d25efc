use lib.ListN.{get_or}
use lib.Dec.{leb}
use mathlib.Core.Path.{◌≡◌}
use mathlib.Core.Bool.{true}
use Rattle.encoding.specs.Below.{all_below}
use Rattle.leaves.specs.Weighted.{max_weight}
use Rattle.leaves.proofs.weights.weights_ok.Given as goal

abbrev pub invariant-loop-x : goal.invariant-loop-x
invariant-loop-x l = all_below l.x-index (λ i. leb (get_or l.weights i 0) max_weight) ≡ true
