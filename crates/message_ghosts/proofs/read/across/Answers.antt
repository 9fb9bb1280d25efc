use Rattle.message_ghosts.proofs.Reading.{next_fits, across_tree, across_ghost}
use Rattle.message_ghosts.proofs.read.across.Goals as goal

pub number_at-requires : goal.number_at-requires
number_at-requires c =
    let record_at_call = c.record_at in
    let neighbour_of_call = c.neighbour_of-next in
    next_fits _ _ _ _ record_at_call.ensures _ _ neighbour_of_call.ensures c.requires c.if-local-count.true

pub returns-then-local-count : goal.returns-then-local-count
returns-then-local-count c =
    let record_at_call = c.record_at in
    let neighbour_of_call = c.neighbour_of-next in
    let if1 = c.if-local-count in
    across_tree _ _ _ _ record_at_call.ensures _ _ neighbour_of_call.ensures _ if1.true c.number_at.ensures

pub returns : goal.returns
returns c = across_ghost _ _ _ _ c.record_at.ensures _ _ c.neighbour_of-next.ensures c.if-local-count.false
