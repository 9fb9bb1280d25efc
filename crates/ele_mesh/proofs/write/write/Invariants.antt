use Rattle.ele_faces.specs.Faces.{face_link}
use Rattle.mesh_build.specs.Build.{built_trees}
use Rattle.mesh.specs.Mesh.{mesh_header}
use Rattle.encoding.specs.Pieces.{splice}
use lib.ListN.{length}
use mathlib.Core.Path.{◌≡◌}
use Rattle.ele_mesh.proofs.write.write.Given as goal

abbrev pub invariant-loop-t : goal.invariant-loop-t
invariant-loop-t l = (length l.out ≡ length l.initial.out) × (l.out ≡ splice l.initial.out mesh_header (built_trees 1 (face_link l.chains.vs.now) l.t))
