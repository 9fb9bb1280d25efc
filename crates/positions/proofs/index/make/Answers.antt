use Rattle.positions.proofs.Positions.{make_markable, make_countable, made}
use Rattle.positions.proofs.index.make.Goals as goal

pub mark_numbers-requires : goal.mark_numbers-requires
mark_numbers-requires c = make_markable c.requires.0 c.requires.1 c.requires.2

pub count_behind-requires : goal.count_behind-requires
count_behind-requires c = make_countable c.requires.0 c.requires.1 c.requires.2 c.mark_numbers.ensures c.div_ceil-words.ensures

pub returns : goal.returns
returns c = made c.requires.0 c.requires.1 c.requires.2 c.mark_numbers.ensures c.div_ceil-words.ensures c.count_behind.ensures.0
