-- What is proved of the first fault of a table beyond the call's contract.
use Rattle.std.specs.Prelude.{ℕ, ◌≤◌, ◌<◌, ◌≡◌, true, List}
use Rattle.offsets.specs.Table.{ranks, ranks_ok}
use Rattle.offsets.specs.Calls.{table_refusal}
use Rattle.faults.specs.declared.answer.Fault.{Fault}
use Rattle.faults.specs.Theorems.{AsChecked}
use Rattle.table_fault.specs.Table.{entry_kind}
use Rattle.table_fault.specs.Calls.{table_fault_of}

-- of every table with P within its limits
abbrev pub TableAsChecked : Type 0
TableAsChecked = (t : List ℕ) → ranks_ok t ≡ true → AsChecked (table_fault_of t) (table_refusal t)

-- the fault of a table that isn't valid is that of its place, and nothing is wrong at an entry before it
pub record FirstEntry (t : List ℕ) (a : Fault) : Type 0 where
  pub within : a.at ≤ ranks t
  pub kind : a.kind ≡ entry_kind t a.at
  pub before : (p : ℕ) → p < a.at → entry_kind t p ≡ 0

abbrev pub TableFirst : Type 0
TableFirst = (t : List ℕ) → (table_fault_of t).fault ≡ 3 → FirstEntry t (table_fault_of t)
