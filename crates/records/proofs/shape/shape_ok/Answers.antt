use Rattle.records.specs.Shape.{shape_ok}
use mathlib.Core.Path.{refl}
use Rattle.records.proofs.shape.shape_ok.Goals as goal

pub returns : goal.returns
unfolding shape_ok
returns c = refl
