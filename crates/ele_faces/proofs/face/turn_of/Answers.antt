use Rattle.ele_faces.proofs.Pairs.{turn_none, turn_one}
use Rattle.ele_faces.proofs.face.turn_of.Goals as goal

pub returns-then-first_vertex : goal.returns-then-first_vertex
returns-then-first_vertex c = turn_none _ _ _ c.first_vertex.ensures c.first_vertex-2.ensures c.if-first_vertex.true

pub returns-else-first_vertex : goal.returns-else-first_vertex
returns-else-first_vertex c = turn_one _ _ _ c.first_vertex.ensures c.first_vertex-2.ensures c.if-first_vertex.false
