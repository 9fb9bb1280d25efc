use Rattle.part_fault.proofs.Finding.{face_of_tree, face_of_ghost}
use Rattle.part_fault.proofs.search.check_face.Goals as goal

pub returns-then-i-e : goal.returns-then-i-e
returns-then-i-e c = face_of_tree _ _ c.requires.0 _ _ c.if-i-e.true c.check_tree_face.ensures

pub returns : goal.returns
returns c = face_of_ghost _ _ c.requires.0 _ _ c.if-i-e.false c.check_ghost_face.ensures
