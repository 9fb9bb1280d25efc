use mathlib.Core.Path.{refl}
use Rattle.mesh.specs.Mesh.{dimension_ok}
use Rattle.mesh.proofs.layout.dimension_ok.Goals as goal

pub returns : goal.returns
unfolding dimension_ok
returns c = refl
