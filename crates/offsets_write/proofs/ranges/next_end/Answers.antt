use Rattle.offsets_write.specs.Means.{next_end}
use borrow.Author.Tests.{lt-ltb, le-ltb}
use Rattle.offsets_write.proofs.ranges.next_end.Goals as goal

pub returns-then-count-gt0 : goal.returns-then-count-gt0
unfolding next_end
returns-then-count-gt0 c = rw (lt-ltb _ _ c.if-count-gt0.true)

pub returns-else-count-gt0 : goal.returns-else-count-gt0
unfolding next_end
returns-else-count-gt0 c = rw (le-ltb _ _ c.if-count-gt0.false)
