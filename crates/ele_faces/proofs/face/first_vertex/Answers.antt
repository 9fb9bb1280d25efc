use Rattle.ele_faces.proofs.Pairs.{first_one, first_zero}
use Rattle.ele_faces.proofs.face.first_vertex.Goals as goal

pub returns-then-f-eq0 : goal.returns-then-f-eq0
returns-then-f-eq0 c = first_one _ _ c.if-f-eq0.true

pub returns-else-f-eq0 : goal.returns-else-f-eq0
returns-else-f-eq0 c = first_zero _ _ c.if-f-eq0.false
