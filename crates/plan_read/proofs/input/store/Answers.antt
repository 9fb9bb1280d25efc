use Rattle.plan_read.specs.Means.{stored}
use borrow.Author.Tests.{lt-ltb, le-ltb}
use Rattle.plan_read.proofs.input.store.Goals as goal

pub returns-then-i-table : goal.returns-then-i-table
unfolding stored
returns-then-i-table c = rw (lt-ltb _ _ c.if-i-table.true) c.write_u64.ensures

pub returns-else-i-table : goal.returns-else-i-table
unfolding stored
returns-else-i-table c = rw (le-ltb _ _ c.if-i-table.false)
