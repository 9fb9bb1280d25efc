use Rattle.area.specs.Layout.{words_place}
use native.Mathlib.Omega.{arith}
use Rattle.area.proofs.layout.words_place.Goals as goal

pub returns : goal.returns
unfolding words_place
returns c = (omega arith, omega arith)
