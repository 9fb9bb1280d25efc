use Rattle.area.specs.Layout.{ghost_slots_place}
use native.Mathlib.Omega.{arith}
use Rattle.area.proofs.layout.ghost_slots_place.Goals as goal

pub returns : goal.returns
unfolding ghost_slots_place
returns c = (omega arith, (omega arith, omega arith))
