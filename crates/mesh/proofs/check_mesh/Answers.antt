use Rattle.encoding.specs.Refusal.{first_failed}
use Rattle.mesh.specs.Mesh.{mesh_refusal}
use Rattle.mesh.proofs.check_mesh.Goals as goal

pub returns-then-not-sound : goal.returns-then-not-sound
unfolding mesh_refusal first_failed
returns-then-not-sound c = simp (← c.sound.ensures, c.if-not-sound.true)

pub returns : goal.returns
unfolding mesh_refusal first_failed
returns c = simp (← c.sound.ensures, c.if-not-sound.false)
