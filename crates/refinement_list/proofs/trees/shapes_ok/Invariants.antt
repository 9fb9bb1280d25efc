use Rattle.refinement.specs.Refinement.{refinable}
use Rattle.encoding.specs.Below.{all_below}
use mathlib.Core.Bool.{true}
use mathlib.Core.Path.{◌≡◌}
use lib.ListN.{get_or}
use Rattle.refinement_list.proofs.trees.shapes_ok.Given as goal

abbrev pub invariant-loop-shape : goal.invariant-loop-shape
invariant-loop-shape l = all_below l.shape-index (λ k. refinable (get_or l.shapes k 0)) ≡ true
