use mathlib.Core.Path.{◌≡◌}
use mathlib.Core.Bool.{true}
use lib.Dec.{eqb}
use Rattle.encoding.specs.Below.{all_below}
use Rattle.part.specs.Part.{view_of}
use Rattle.part_fault.specs.Wrong.{ghost_wrong_in}
use Rattle.part_fault.proofs.search.Ghosts.first_wrong.Given as goal

abbrev pub invariant-loop-j : goal.invariant-loop-j
invariant-loop-j l = all_below l.j (λ k. eqb (ghost_wrong_in (view_of l.self.part.now) k).kind 0) ≡ true
