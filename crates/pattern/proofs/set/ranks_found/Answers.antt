use native.Mathlib.Omega.{arith}
use Rattle.pattern.proofs.Answers.{ranks_none, ranks_some}
use Rattle.pattern.proofs.set.ranks_found.Goals as goal

pub returns-then-n-eq0 : goal.returns-then-n-eq0
returns-then-n-eq0 c = ranks_none _ c.if-n-eq0.true

pub overflow_cast-result-2 : goal.overflow_cast-result-2
overflow_cast-result-2 c = record { sfits = c.requires.small 0 (omega arith) }

pub overflow_cast-result-3 : goal.overflow_cast-result-3
overflow_cast-result-3 c = record { sfits = c.requires.small _ (omega arith) }

pub returns : goal.returns
returns c = ranks_some _ c.requires c.if-n-eq0.false
