-- After a list of calls: what the calls that only read an area answer, by who is heard.
use Rattle.std.specs.Prelude.{ℕ, ◌≤◌, ◌≡◌, cond, List, length}
use Rattle.encoding.specs.Answer.{length_answer}
use Rattle.encoding.specs.Below.{count_below}
use Rattle.offsets.specs.Table.{ranks}
use Rattle.pattern.specs.Sets.{receive_set}
use Rattle.area_open.specs.Calls.{progress_of}
use Rattle.area.specs.Close.{close_length_of}
use Rattle.repartition.specs.Run.{Run, Setting}
use Rattle.repartition.specs.Lists.{Call, AllBuilt, all_due, new_part}
use Rattle.repartition.specs.Demand.{size, heard_by, bytes_after}

-- something is so of every run, every buffer that is long enough and every list of calls
abbrev pub EveryList : (Run → List ℕ → List Call → Type 0) → Type 0
EveryList Q = (run : Run) → Setting run → (b : List ℕ) → size run ≤ length b → (cs : List Call) → AllBuilt run cs → Q run b cs

-- progress_of answers how many ranks are heard by the list, and the size of the receive set
abbrev pub ProgressAfter : Type 0
ProgressAfter =
    EveryList
    (λ run b cs.
    progress_of (bytes_after run b cs)
    ≡ record { refusal = 0; heard = count_below (ranks run.old) (heard_by run cs); due = length (receive_set run.old run.new run.rank) })

-- part_of_area_length answers 20 until every sender of the receive set is heard by the list, then the length of the new table's part
abbrev pub PartLengthAfter : Type 0
PartLengthAfter =
    EveryList (λ run b cs. close_length_of (bytes_after run b cs) ≡ length_answer (cond (all_due run (heard_by run cs)) 0 20) (length (new_part run)))
