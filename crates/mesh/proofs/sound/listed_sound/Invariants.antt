use Rattle.mesh.specs.Mesh.{mesh_core}
use Rattle.mesh.specs.Means.{listed_link, listed_sound}
use Rattle.mesh.proofs.Packing.{Left}
use Rattle.mesh.proofs.sound.listed_sound.Given as goal

abbrev pub invariant-loop-left : goal.invariant-loop-left
invariant-loop-left l = Left (listed_link (mesh_core l.mesh) l.k) (listed_sound (mesh_core l.mesh) l.dimension l.k) l.faces l.left

abbrev pub decreases-loop-left : goal.decreases-loop-left
decreases-loop-left l = l.left
