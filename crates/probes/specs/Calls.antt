-- What the call answers, refusals included, and what it leaves in the lent list.
use Rattle.std.specs.Prelude.{ℕ, List, [], ◌∷◌, ◌++◌, leb, length}
use Rattle.encoding.specs.Answer.{written, count_answer}
use Rattle.encoding.specs.Refusal.{check, first_failed}
use Rattle.encoding.specs.declared.answer.Count.{Count}
use Rattle.part.specs.Part.{part_sound}
use Rattle.part.specs.Checks.{rank_checks}
use Rattle.probes.specs.declared.Probe.{Probe}
use Rattle.probes.specs.Probes.{boxes_ok, probe_ok, trees_met}

-- every box is asked, met or not; the list has an entry for each tree met
unfoldable pub near_refusal : List ℕ → List ℕ → ℕ → Probe → List ℕ → ℕ
near_refusal part table rank probe out =
    first_failed
    (rank_checks table rank
    ++ (check (part_sound part table rank) 8
    ∷ check (probe_ok probe) 31
    ∷ check (boxes_ok part) 32
    ∷ check (leb (length (trees_met part probe)) (length out)) 22
    ∷ []))

-- the answer, and the list: the trees met and the entries behind them, or as it was
unfoldable pub trees_near : List ℕ → List ℕ → ℕ → Probe → List ℕ → Count × List ℕ
trees_near part table rank probe out =
    (count_answer (near_refusal part table rank probe out) (length (trees_met part probe)), written (near_refusal part table rank probe out) (trees_met part probe) out)
