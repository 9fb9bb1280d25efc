use Rattle.linked.proofs.Reading.{up_local, up_global}
use Rattle.linked.proofs.trees.leads_up.Goals as goal

pub returns-then-x : goal.returns-then-x
returns-then-x c = up_local _ _ _ _ c.if-x.true

pub returns : goal.returns
returns c = up_global _ _ _ c.tree_at.ensures _ c.if-x.false c.requires.1 c.number_of-number.ensures
