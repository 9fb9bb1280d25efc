use native.Mathlib.Omega.{arith}
use Rattle.area.proofs.Headers.{tables_room, tabled}
use Rattle.area.proofs.Tabled.{tabled_long}
use Rattle.close_check.proofs.Joining.{first_read}
use Rattle.close_check.proofs.join.first_tree.Goals as goal

pub tables_of-tables-requires : goal.tables_of-tables-requires
tables_of-tables-requires c = tables_room c.requires

pub first_tree-first-requires : goal.first_tree-first-requires
first_tree-first-requires c = omega (arith, tabled_long (tabled c.tables_of-tables.ensures c.requires) c.rank.ensures)

pub overflow_cast-first : goal.overflow_cast-first
overflow_cast-first c = omega (arith, (first_read c.requires c.tables_of-tables.ensures.1 c.rank.ensures c.first_tree-first.ensures).1)

pub returns : goal.returns
returns c = first_read c.requires c.tables_of-tables.ensures.1 c.rank.ensures c.first_tree-first.ensures
