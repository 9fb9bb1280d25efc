use Rattle.ele_faces.proofs.Pairs.{hash_read}
use Rattle.ele_faces.proofs.face.hash_of.Goals as goal

pub returns : goal.returns
returns c = rw (c.min.ensures, c.max.ensures) (hash_read _ _ _ c.requires.2 c.first_vertex-a.ensures c.second_vertex-b.ensures)
