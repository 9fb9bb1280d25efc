use borrow.Author.Tests.{lt-ltb, le-ltb}
use Rattle.part_check.proofs.sound.back_of.Goals as goal

pub returns-then-j-count : goal.returns-then-j-count
returns-then-j-count c = rw (lt-ltb _ _ c.if-j-count.true)

pub returns : goal.returns
returns c = rw (le-ltb _ _ c.if-j-count.false)
