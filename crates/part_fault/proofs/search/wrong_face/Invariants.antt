use Rattle.faults.proofs.Firsts.{quiet}
use Rattle.part_fault.specs.Wrong.{face_in}
use Rattle.part.specs.Part.{view_of}
use mathlib.Core.Bool.{true}
use mathlib.Core.Path.{◌≡◌}
use Rattle.part_fault.proofs.search.wrong_face.Given as goal

abbrev pub invariant-loop-face : goal.invariant-loop-face
invariant-loop-face l = quiet (face_in (view_of l.part) l.i) l.face ≡ true
