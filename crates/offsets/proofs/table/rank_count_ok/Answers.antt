use Rattle.offsets.specs.Limits.{rank_count_ok}
use mathlib.Core.Path.{refl}
use Rattle.offsets.proofs.table.rank_count_ok.Goals as goal

pub returns : goal.returns
unfolding rank_count_ok
returns c = refl
