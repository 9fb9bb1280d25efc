-- What the call answers.
use Rattle.std.specs.Prelude.{ℕ, ◌+◌, List, [], ◌∷◌}
use Rattle.encoding.specs.Refusal.{check, first_failed}
use Rattle.offsets.specs.Table.{ranks, ranks_ok}
use Rattle.faults.specs.declared.answer.Fault.{Fault}
use Rattle.faults.specs.Answer.{first_fault}
use Rattle.faults.specs.Calls.{fault_answer}
use Rattle.table_fault.specs.Table.{entry_wrong}

-- where a table fails: at the least entry
unfoldable pub table_fault_of : List ℕ → Fault
table_fault_of t = fault_answer (first_failed (check (ranks_ok t) 2 ∷ [])) (first_fault 3 (ranks t + 1) (entry_wrong t))
