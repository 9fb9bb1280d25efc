use mathlib.Core.Path.{◌≡◌}
use mathlib.Core.Bool.{false}
use Rattle.encoding.specs.Below.{any_below}
use Rattle.lookup.specs.Lookup.{has_number}
use Rattle.lookup.proofs.find.Given as goal

abbrev pub invariant-loop-i : goal.invariant-loop-i
invariant-loop-i l = any_below l.i (has_number l.size l.bs l.wanted) ≡ false
