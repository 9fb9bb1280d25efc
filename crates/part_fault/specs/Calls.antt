-- What the call answers, refusals included.
use Rattle.std.specs.Prelude.{ℕ, ◌+◌, Bool, cond, ◌&&◌, List, eqb, length}
use Rattle.encoding.specs.Refusal.{first_failed}
use Rattle.part.specs.Layout.{part_size}
use Rattle.part.specs.Part.{part_count, part_ghost_count, view_of, part_header_sound}
use Rattle.part.specs.Checks.{rank_checks}
use Rattle.faults.specs.declared.answer.Fault.{Fault}
use Rattle.faults.specs.Answer.{wrong, fault_at, first_fault}
use Rattle.faults.specs.Calls.{fault_answer}
use Rattle.part_fault.specs.Wrong.{wrong_in}

-- the header and the length
abbrev pub part_headed : List ℕ → List ℕ → ℕ → Bool
part_headed part table rank = part_header_sound part table rank && eqb (length part) (part_size (part_count part) (part_ghost_count part))

-- where a part fails: kind 6, header or length, before every record; else at the least record
unfoldable pub part_fault_of : List ℕ → List ℕ → ℕ → Fault
part_fault_of part table rank =
    fault_answer (first_failed (rank_checks table rank))
    (cond (part_headed part table rank) (first_fault 8 (part_count part + part_ghost_count part) (wrong_in (view_of part))) (fault_at 8 0 (wrong 6 0)))
