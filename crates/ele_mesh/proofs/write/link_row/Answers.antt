use Rattle.ele_mesh.proofs.Joins.{link_none, link_some}
use Rattle.ele_mesh.proofs.write.link_row.Goals as goal

pub returns-in-Some : goal.returns-in-Some
returns-in-Some c = link_some _ _ _ c.in-Some.ensures.0 c.turn_of.ensures

pub returns-in-None : goal.returns-in-None
returns-in-None c = link_none _ _ _ c.in-None.ensures.0
