use Rattle.pattern.specs.Means.{held_above}
use borrow.Author.Tests.{le-leb, lt-leb}
use Rattle.pattern.proofs.holder.holds_above.Goals as goal

pub returns-then-ranks-q : goal.returns-then-ranks-q
unfolding held_above
returns-then-ranks-q c = rw (← c.ranks-ranks.ensures.0, le-leb _ _ c.if-ranks-q.true)

pub returns : goal.returns
unfolding held_above
returns c = rw (← c.ranks-ranks.ensures.0, lt-leb _ _ c.if-ranks-q.false) c.holds.ensures
