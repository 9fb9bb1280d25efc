use Rattle.linked.proofs.Reading.{edge_local, edge_global}
use Rattle.linked.proofs.trees.edge_ok.Goals as goal

pub returns-then-x : goal.returns-then-x
returns-then-x c = edge_local _ _ _ c.tree_at-at.ensures _ c.if-x.true c.boundary_ok.ensures

pub returns : goal.returns
returns c = edge_global _ _ _ c.tree_at-at.ensures _ c.if-x.false c.requires.1 c.number_of.ensures c.boundary_ok-2.ensures
