use Rattle.positions.proofs.Positions.{member_past, member_none, member_is}
use Rattle.positions.proofs.index.find.Goals as goal

pub returns-then-marks-k : goal.returns-then-marks-k
returns-then-marks-k c = member_past _ _ _ c.if-marks-k.true

pub returns-then-not-in_set : goal.returns-then-not-in_set
returns-then-not-in_set c = member_none _ _ _ c.in_set.ensures (c.if-not-in_set.true)

pub returns : goal.returns
returns c = (member_is _ _ _ c.in_set.ensures (c.if-not-in_set.false) c.members_below.ensures.0, c.members_below.ensures.1)
