use Rattle.linked.proofs.Reading.{back_local, back_global}
use Rattle.linked.proofs.trees.leads_back.Goals as goal

pub returns-then-x : goal.returns-then-x
returns-then-x c = back_local _ _ _ _ c.if-x.true

pub returns : goal.returns
returns c = back_global _ _ _ c.tree_at.ensures _ c.if-x.false c.requires.1 c.number_of.ensures
