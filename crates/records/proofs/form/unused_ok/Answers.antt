use Rattle.records.specs.Record.{unused_ok}
use Rattle.records.proofs.form.unused_ok.Goals as goal

pub returns : goal.returns
unfolding unused_ok
returns c = rw (c.neighbour_of.ensures, c.code_of.ensures)
