use Rattle.records.proofs.links.put_row.Goals as goal

pub returns : goal.returns
returns c = rw c.write_u32.ensures
