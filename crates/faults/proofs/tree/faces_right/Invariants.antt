use mathlib.Core.Path.{◌≡◌}
use mathlib.Core.Bool.{true}
use Rattle.mesh.specs.Mesh.{mesh_core}
use Rattle.mesh.specs.Means.{face_by_dimension}
use Rattle.encoding.specs.Below.{all_below}
use Rattle.faults.proofs.tree.faces_right.Given as goal

abbrev pub invariant-loop-at : goal.invariant-loop-at
invariant-loop-at l = all_below l.at (face_by_dimension (mesh_core l.mesh) l.dimension l.trees l.k) ≡ true
