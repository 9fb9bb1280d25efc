-- Checking a part.
use Rattle.std.specs.Prelude.{ℕ, List, [], ◌∷◌, ◌++◌}
use Rattle.encoding.specs.Refusal.{check, first_failed}
use Rattle.part.specs.Part.{part_sound}
use Rattle.part.specs.Checks.{rank_checks}

-- check a part
unfoldable pub part_refusal : List ℕ → List ℕ → ℕ → ℕ
part_refusal part table rank = first_failed (rank_checks table rank ++ (check (part_sound part table rank) 8 ∷ []))
