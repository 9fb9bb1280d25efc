use Rattle.leaf_shares.specs.Means.{count_ok}
use Rattle.encoding.specs.Below.{all_below}
use mathlib.Core.Path.{◌≡◌}
use lib.ListN.{get_or}
use Rattle.leaf_shares.proofs.counts.leaves_ok.Given as goal

abbrev pub invariant-loop-x : goal.invariant-loop-x
invariant-loop-x l = l.ok ≡ all_below l.x-index (λ j. count_ok (get_or l.leaves j 0))
