use Rattle.deliver.proofs.Ready.{first_read, trees_placed}
use Rattle.area.proofs.Tabled.{tabled_long}
use Rattle.area.proofs.Headers.{tables_room, tabled}
use native.Mathlib.Omega.{arith}
use Rattle.deliver.proofs.write.trees_place.Goals as goal

pub tables_of-tables-requires : goal.tables_of-tables-requires
tables_of-tables-requires c = tables_room c.requires.holds

pub first_tree-first-requires : goal.first_tree-first-requires
first_tree-first-requires c = omega (arith, tabled_long (tabled c.tables_of-tables.ensures c.requires.holds) c.rank.ensures)

pub overflow_cast-first : goal.overflow_cast-first
overflow_cast-first c =
    let tables = c.tables_of-tables in
    let pre = c.requires in
    let rank = c.rank in
    let number_of_call = c.number_of-sent in
    omega (arith, first_read (tabled tables.ensures pre.holds) rank.ensures c.first_tree-first.ensures, pre.low, pre.first_is, number_of_call.ensures)

pub to_local-tree-requires : goal.to_local-tree-requires
to_local-tree-requires c =
    let tables = c.tables_of-tables in
    let pre = c.requires in
    let rank = c.rank in
    let number_of_call = c.number_of-sent in
    omega (arith, first_read (tabled tables.ensures pre.holds) rank.ensures c.first_tree-first.ensures, pre.low, pre.first_is, number_of_call.ensures)

pub returns : goal.returns
returns c =
    let pre = c.requires in
    let ranks = c.ranks-ranks in
    let slots-place = c.slots_place in
    let tables = c.tables_of-tables in
    let rank = c.rank in
    let first_tree_call = c.first_tree-first in
    let number_of_call = c.number_of-sent in
    let to_local = c.to_local-tree in
    trees_placed _ _ pre _ ranks.ensures slots-place.ensures.0 (first_read (tabled tables.ensures pre.holds) rank.ensures first_tree_call.ensures) number_of_call.ensures to_local.ensures
