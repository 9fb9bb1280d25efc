use Rattle.pattern.proofs.tables.both_ranks_ok.Goals as goal

pub returns : goal.returns
returns c = rw (c.ranks_ok.ensures, c.ranks_ok-2.ensures)
