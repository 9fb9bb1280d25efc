-- What the call answers, refusals included, and what it leaves in the lent list.
use Rattle.std.specs.Prelude.{ℕ, List, [], ◌∷◌, ◌++◌, leb, length}
use Rattle.encoding.specs.Answer.{written}
use Rattle.encoding.specs.Refusal.{check, first_failed}
use Rattle.records.specs.Record.{region_limit}
use Rattle.part.specs.Part.{part_sound}
use Rattle.part.specs.Checks.{rank_checks}
use Rattle.regions.specs.Counts.{region_counts}

-- the list has an entry for each region, whatever the part has
unfoldable pub regions_refusal : List ℕ → List ℕ → ℕ → List ℕ → ℕ
regions_refusal part table rank out =
    first_failed (rank_checks table rank ++ (check (part_sound part table rank) 8 ∷ check (leb region_limit (length out)) 22 ∷ []))

-- the refusal, and the list: the counts and the entries behind them, or as it was
unfoldable pub region_counts_of : List ℕ → List ℕ → ℕ → List ℕ → ℕ × List ℕ
region_counts_of part table rank out =
    (regions_refusal part table rank out, written (regions_refusal part table rank out) (region_counts part) out)
