use Rattle.area.specs.Layout.{new_place}
use native.Mathlib.Omega.{arith}
use Rattle.area.proofs.layout.new_place.Goals as goal

pub returns : goal.returns
unfolding new_place
returns c = (omega arith, omega arith)
