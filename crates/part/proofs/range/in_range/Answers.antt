use mathlib.Core.Path.{refl}
use Rattle.part.specs.Means.{in_range}
use Rattle.part.proofs.range.in_range.Goals as goal

pub returns : goal.returns
unfolding in_range
returns c = refl
