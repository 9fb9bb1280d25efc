use Rattle.part.specs.Means.{record_place}
use borrow.Author.Tests.{lt-ltb, le-ltb}
use Rattle.part.proofs.layout.record_at.Goals as goal

pub returns-then-j-count : goal.returns-then-j-count
unfolding record_place
returns-then-j-count c = rw (lt-ltb _ _ c.if-j-count.true) c.tree_at.ensures

pub returns : goal.returns
unfolding record_place
returns c = rw (le-ltb _ _ c.if-j-count.false) c.ghost_at.ensures
