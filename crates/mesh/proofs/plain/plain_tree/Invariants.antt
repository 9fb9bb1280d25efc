use Rattle.mesh.specs.Means.{leads_up, leads_down, face_from_above, FacesAs}
use Rattle.mesh.specs.Mesh.{mesh_core}
use Rattle.mesh.proofs.plain.plain_tree.Given as goal

abbrev pub invariant-loop-face : goal.invariant-loop-face
invariant-loop-face l = FacesAs (face_from_above (mesh_core l.mesh) 3 l.trees l.k) (leads_up (mesh_core l.mesh) l.k) (leads_down (mesh_core l.mesh) l.k) l.face l.ups l.downs
