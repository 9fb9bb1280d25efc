use Rattle.probes.specs.Probes.{box_ok}
use Rattle.encoding.specs.Below.{all_below}
use Rattle.probes.proofs.boxes.box_ok.Goals as goal

pub returns : goal.returns
unfolding box_ok all_below
returns c = simp (← c.axis_ok.ensures, ← c.axis_ok-2.ensures, ← c.axis_ok-3.ensures)
