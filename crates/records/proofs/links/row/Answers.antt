use Rattle.records.specs.Links.{row_of}
use Rattle.records.proofs.links.row.Goals as goal

pub returns : goal.returns
unfolding row_of
returns c = rw (c.neighbour_of.ensures, c.code_of-code.ensures)
