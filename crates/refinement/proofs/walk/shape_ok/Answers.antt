use Rattle.refinement.specs.Refinement.{refinable}
use mathlib.Core.Path.{refl}
use Rattle.refinement.proofs.walk.shape_ok.Goals as goal

pub returns : goal.returns
unfolding refinable
returns c = refl
