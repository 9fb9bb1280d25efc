use Rattle.ele_faces.proofs.Pairs.{second_one, second_two}
use Rattle.ele_faces.proofs.face.second_vertex.Goals as goal

pub returns-then-f-eq2 : goal.returns-then-f-eq2
returns-then-f-eq2 c = second_one _ _ c.if-f-eq2.true

pub returns-else-f-eq2 : goal.returns-else-f-eq2
returns-else-f-eq2 c = second_two _ _ c.if-f-eq2.false
