use Rattle.area.specs.Layout.{slots_place}
use native.Mathlib.Omega.{arith}
use Rattle.area.proofs.layout.slots_place.Goals as goal

pub returns : goal.returns
unfolding slots_place
returns c = (omega arith, (omega arith, omega arith))
