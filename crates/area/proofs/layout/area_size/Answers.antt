use Rattle.area.specs.Layout.{area_size}
use native.Mathlib.Omega.{arith}
use Rattle.area.proofs.layout.area_size.Goals as goal

pub returns : goal.returns
unfolding area_size
returns c = omega arith
