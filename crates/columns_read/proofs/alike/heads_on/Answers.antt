use Rattle.std.proofs.Common.{arith}
use Rattle.columns_read.proofs.Runs.{heads_none, heads_run}
use Rattle.columns_read.proofs.alike.heads_on.Goals as goal

pub returns-then-columns-i-le64 : goal.returns-then-columns-i-le64
returns-then-columns-i-le64 c = (omega arith, heads_none _ _ _ _ _ _ _)

pub returns : goal.returns
returns c = (omega (arith, c.heads_like.ensures.few), heads_run _ _ _ _ _ _ _ c.heads_like.ensures)
