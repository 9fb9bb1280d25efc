use Rattle.area.proofs.Headers.{tables_lent}
use Rattle.area.proofs.read.tables_of.Goals as goal

pub returns : goal.returns
returns c = tables_lent _ c.ranks-ranks.ensures c.new_place-middle.ensures.0 c.words_place-end.ensures.0
