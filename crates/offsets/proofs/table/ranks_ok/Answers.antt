use Rattle.offsets.proofs.OnePass.{ranks_short}
use Rattle.offsets.specs.Table.{ranks, ranks_ok}
use mathlib.Core.Path.{sym}
use Rattle.offsets.proofs.table.ranks_ok.Goals as goal

pub returns-then-n-lt16 : goal.returns-then-n-lt16
returns-then-n-lt16 c = sym (ranks_short _ c.if-n-lt16.true)

pub returns : goal.returns
unfolding ranks ranks_ok
returns c = rw c.rank_count_ok.ensures
