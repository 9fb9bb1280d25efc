use mathlib.Core.Path.{◌≡◌}
use mathlib.Core.Bool.{true}
use lib.Dec.{eqb}
use Rattle.encoding.specs.Below.{all_below}
use Rattle.part.specs.Part.{view_of}
use Rattle.part_fault.specs.Wrong.{tree_wrong_in}
use Rattle.part_fault.proofs.search.plain_run.Given as goal

abbrev pub invariant-loop-i : goal.invariant-loop-i
invariant-loop-i l = all_below l.i (λ k. eqb (tree_wrong_in (view_of l.part) k).kind 0) ≡ true
