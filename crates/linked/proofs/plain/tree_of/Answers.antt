use Rattle.linked.proofs.Reading.{place_local, place_in, place_out}
use Rattle.linked.proofs.plain.tree_of.Goals as goal

pub returns-then-x : goal.returns-then-x
returns-then-x c = place_local _ _ c.if-x.true

pub returns-then-first-neighbour : goal.returns-then-first-neighbour
returns-then-first-neighbour c = place_in _ _ c.if-x.false c.if-first-neighbour.true c.to_local.ensures

pub returns : goal.returns
returns c = place_out _ _ c.if-x.false c.if-first-neighbour.false
