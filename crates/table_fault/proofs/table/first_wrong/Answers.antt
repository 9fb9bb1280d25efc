use mathlib.Core.Path.{refl}
use native.Mathlib.Omega.{arith}
use Rattle.faults.proofs.Positive.{kind_positive}
use Rattle.faults.proofs.Firsts.{quiet_more, quiet_start}
use Rattle.offsets.specs.Table.{trees}
use Rattle.table_fault.proofs.Entries.{entry_found, entry_none}
use Rattle.table_fault.proofs.table.first_wrong.Goals as goal

pub entry-trees-requires : goal.entry-trees-requires
entry-trees-requires c = omega (arith, c.ranks-ranks.ensures.1)

pub loop-p-init : goal.loop-p-init
loop-p-init c = quiet_start _

pub check_entry-requires : goal.check_entry-requires
unfolding trees
check_entry-requires c = (c.requires, c.ranks-ranks.ensures.0, rw (← c.ranks-ranks.ensures.0) c.entry-trees.ensures, omega arith)

pub returns-in-Err : goal.returns-in-Err
returns-in-Err c = entry_found _ c.ranks-ranks.ensures.0 _ c.loop-p.invariant (omega arith) c.in-Err.ensures (kind_positive _) refl

pub loop-p-preserved : goal.loop-p-preserved
loop-p-preserved c = quiet_more _ _ c.loop-p.invariant c.in_default.ensures refl

pub returns : goal.returns
returns c = entry_none _ c.ranks-ranks.ensures.0 _ c.loop-p.invariant (omega arith) (omega arith) refl
