use lib.ListN.{get_or}
use lib.Dec.{eqb}
use mathlib.Core.Path.{◌≡◌}
use mathlib.Core.Bool.{true}
use Rattle.encoding.specs.Below.{all_below}
use Rattle.leaves.specs.Blocks.{block_sum}
use Rattle.leaves.proofs.blocks.sums_ok.Given as goal

abbrev pub invariant-loop-b : goal.invariant-loop-b
invariant-loop-b l = all_below l.b (λ i. eqb (get_or l.sums i 0) (block_sum l.leaves i)) ≡ true
