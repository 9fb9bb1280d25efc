use mathlib.Core.Bool.{true}
use mathlib.Core.Path.{◌≡◌}
use Rattle.encoding.specs.Below.{all_below}
use Rattle.probes.specs.Probes.{box_ok}
use Rattle.probes.proofs.list.boxes_ok.Given as goal

abbrev pub invariant-loop-i : goal.invariant-loop-i
invariant-loop-i l = all_below l.i (box_ok l.part) ≡ true
