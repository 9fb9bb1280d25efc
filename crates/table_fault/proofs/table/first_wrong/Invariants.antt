use Rattle.faults.proofs.Firsts.{quiet}
use Rattle.table_fault.specs.Table.{entry_kind}
use mathlib.Core.Bool.{true}
use mathlib.Core.Path.{◌≡◌}
use Rattle.table_fault.proofs.table.first_wrong.Given as goal

abbrev pub invariant-loop-p : goal.invariant-loop-p
invariant-loop-p l = quiet (entry_kind l.t) l.p ≡ true
