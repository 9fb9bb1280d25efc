use Rattle.linked.proofs.Reading.{numbered_below, numbered_is}
use Rattle.linked.proofs.trees.numbered.Goals as goal

pub returns-then-number-first : goal.returns-then-number-first
returns-then-number-first c = numbered_below _ _ _ c.tree_at.ensures c.number_of-number.ensures c.if-number-first.true

pub returns : goal.returns
returns c = numbered_is _ _ _ c.tree_at.ensures c.number_of-number.ensures _ c.to_local-local.ensures
