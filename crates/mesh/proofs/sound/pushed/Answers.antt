use Rattle.mesh.proofs.sound.pushed.Goals as goal

pub returns-then-listed : goal.returns-then-listed
returns-then-listed c = rw c.if-listed.true
