use Rattle.brick.specs.Calls.{extents_ok}
use Rattle.brick.proofs.extents.extents_ok.Goals as goal

pub returns : goal.returns
unfolding extents_ok
returns c = simp (← c.extent_ok.ensures, ← c.extent_ok-2.ensures, ← c.extent_ok-3.ensures)
