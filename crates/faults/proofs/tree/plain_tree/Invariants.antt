use Rattle.mesh.specs.Means.{face_passes}
use Rattle.mesh.specs.Mesh.{mesh_core}
use Rattle.encoding.specs.Below.{all_below}
use mathlib.Core.Bool.{true}
use mathlib.Core.Path.{◌≡◌}
use Rattle.faults.proofs.tree.plain_tree.Given as goal

abbrev pub invariant-loop-next : goal.invariant-loop-next
invariant-loop-next l = all_below l.next (face_passes (mesh_core l.mesh) l.trees l.k) ≡ true
