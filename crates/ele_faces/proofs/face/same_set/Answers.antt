use Rattle.ele_faces.proofs.Pairs.{same_read}
use Rattle.ele_faces.proofs.face.same_set.Goals as goal

pub returns : goal.returns
returns c =
    let first-vertex = c.first_vertex-a in
    let second-vertex = c.second_vertex-b in
    let first-vertex2 = c.first_vertex-c in
    same_read _ _ _ first-vertex.ensures second-vertex.ensures first-vertex2.ensures c.second_vertex-d.ensures
