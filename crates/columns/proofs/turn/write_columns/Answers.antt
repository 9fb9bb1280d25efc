use Rattle.columns.proofs.Writing.{columns_trees, columns_ghosts, columns_written}
use Rattle.columns.proofs.turn.write_columns.Goals as goal

pub turn-requires : goal.turn-requires
turn-requires c =
    let tree_count_call = c.tree_count-n in
    let ghost-count = c.ghost_count-g in
    let pre = c.requires in
    let line = c.line in
    rw (c.spread.ensures, c.spread-to.ensures) (columns_trees _ _ _ _ tree_count_call.ensures ghost-count.ensures pre line.ensures)

pub turn-requires-2 : goal.turn-requires-2
turn-requires-2 c =
    let tree_count_call = c.tree_count-n in
    let ghost-count = c.ghost_count-g in
    let pre = c.requires in
    let line = c.line in
    let turn = c.turn in
    rw (c.spread-2.ensures, c.spread-to-2.ensures) (columns_ghosts _ _ _ _ tree_count_call.ensures ghost-count.ensures pre line.ensures (rw (c.spread.ensures, c.spread-to.ensures) at turn.ensures))

pub returns : goal.returns
returns c =
    let tree_count_call = c.tree_count-n in
    let ghost-count = c.ghost_count-g in
    let pre = c.requires in
    let line = c.line in
    let turn = c.turn in
    let turn2 = c.turn-2 in
    columns_written _ _ _ _ tree_count_call.ensures ghost-count.ensures pre line.ensures (rw (c.spread.ensures, c.spread-to.ensures) at turn.ensures) (rw (c.spread-2.ensures, c.spread-to-2.ensures) at turn2.ensures)
