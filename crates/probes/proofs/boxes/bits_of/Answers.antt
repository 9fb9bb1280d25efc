use Rattle.probes.proofs.boxes.bits_of.Goals as goal

pub returns : goal.returns
returns c = rw (← c.tree_at.ensures) c.read_u32.ensures
