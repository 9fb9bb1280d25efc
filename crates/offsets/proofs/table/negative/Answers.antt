use Rattle.offsets.specs.Table.{negative}
use mathlib.Core.Path.{refl}
use Rattle.offsets.proofs.table.negative.Goals as goal

pub returns : goal.returns
unfolding negative
returns c = refl
