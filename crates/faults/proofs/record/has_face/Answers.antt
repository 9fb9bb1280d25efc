use Rattle.faults.proofs.record.has_face.Goals as goal

pub returns : goal.returns
returns c = simp (← c.shape_of.ensures, ← c.face_count.ensures.0)
