use Rattle.mesh.proofs.plain.run_on.Goals as goal

pub returns : goal.returns
returns c = rw c.if-dimension-ne3.false c.plain_run.ensures
