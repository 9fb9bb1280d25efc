use Rattle.linked.proofs.Reading.{place_tree, place_ghost}
use Rattle.linked.proofs.layout.record_at.Goals as goal

pub returns-then-j-x : goal.returns-then-j-x
returns-then-j-x c = place_tree _ _ c.if-j-x.true

pub returns : goal.returns
returns c = place_ghost _ _ c.if-j-x.false
