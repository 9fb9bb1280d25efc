use mathlib.Core.Path.{◌≡◌}
use mathlib.Core.Bool.{true}
use Rattle.encoding.specs.Below.{all_below}
use Rattle.part_fault.specs.Means.{ghost_face_of}
use Rattle.part_fault.proofs.search.Ghosts.faces_right.Given as goal

abbrev pub invariant-loop-face : goal.invariant-loop-face
invariant-loop-face l = all_below l.face (ghost_face_of l.self.part.now l.self.e l.j) ≡ true
