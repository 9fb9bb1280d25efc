use Rattle.positions.proofs.Positions.{make_countable, made}
use Rattle.columns_check.proofs.Held.{rows_numbered}
use Rattle.columns_check.proofs.sound.index_ghosts.Goals as goal

pub mark_ghosts-requires : goal.mark_ghosts-requires
mark_ghosts-requires c = (c.requires.0, c.requires.1)

pub count_behind-requires : goal.count_behind-requires
count_behind-requires c =
    let pre = c.requires in
    make_countable (rows_numbered _ _ _ _ _ pre.0) pre.1 pre.2 c.mark_ghosts.ensures c.div_ceil-words.ensures

pub returns : goal.returns
returns c =
    let pre = c.requires in
    made (rows_numbered _ _ _ _ _ pre.0) pre.1 pre.2 c.mark_ghosts.ensures c.div_ceil-words.ensures c.count_behind.ensures.0
