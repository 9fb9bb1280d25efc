use Rattle.deliver.proofs.write.set_heard.Goals as goal

pub returns : goal.returns
returns c = rw (c.write_u64.ensures, c.with_bit.ensures, c.read_u64-word.ensures)
