use Rattle.faults.proofs.Firsts.{quiet}
use Rattle.faults.specs.Mesh.{tree_face_kind}
use Rattle.mesh.specs.Mesh.{mesh_core}
use mathlib.Core.Bool.{true}
use mathlib.Core.Path.{◌≡◌}
use Rattle.faults.proofs.tree.wrong_face.Given as goal

abbrev pub invariant-loop-face : goal.invariant-loop-face
invariant-loop-face l = quiet (tree_face_kind (mesh_core l.mesh) l.trees l.k) l.face ≡ true
