use Rattle.part_cut.proofs.Renaming.{in_unused, in_local, in_ghost}
use Rattle.part.proofs.Ranges.{range_first}
use Rattle.part_cut.proofs.locals.Renaming.local_index.Goals as goal

pub returns-then-k : goal.returns-then-k
returns-then-k c = in_unused _ _ _ _ c.if-k.true

pub to_local-requires : goal.to_local-requires
to_local-requires c = range_first _ _ _ c.within.ensures c.if-within.true

pub returns-then-within : goal.returns-then-within
returns-then-within c = in_local _ _ _ _ c.if-k.false c.within.ensures c.if-within.true c.to_local.ensures

pub returns : goal.returns
returns c =
    let if1 = c.if-k in
    let within = c.within in
    let if2 = c.if-within in
    let count-below = c.count_below-position in
    in_ghost _ _ _ _ if1.false within.ensures if2.false count-below.ensures.0 c.ghost_index.ensures
