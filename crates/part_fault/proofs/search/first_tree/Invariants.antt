use Rattle.part_fault.specs.Wrong.{tree_wrong_in}
use Rattle.part.specs.Part.{view_of}
use Rattle.encoding.specs.Below.{all_below}
use lib.Dec.{eqb}
use mathlib.Core.Bool.{true}
use mathlib.Core.Path.{◌≡◌}
use Rattle.part_fault.proofs.search.first_tree.Given as goal

abbrev pub invariant-loop-i : goal.invariant-loop-i
invariant-loop-i l = all_below l.i (λ k. eqb (tree_wrong_in (view_of l.part) k).kind 0) ≡ true
