-- What the calls answer, refusals included, and what they leave in the lent buffer.
use Rattle.std.specs.Prelude.{ℕ, cond, ◌&&◌, List, [], ◌∷◌, ◌++◌, leb, ltb, length}
use Rattle.encoding.specs.Answer.{length_answer, write_answer}
use Rattle.encoding.specs.Below.{count_below}
use Rattle.encoding.specs.Refusal.{Check, check, first_failed}
use Rattle.encoding.specs.declared.answer.Length.{Length}
use Rattle.offsets.specs.Table.{ranks, tree_count}
use Rattle.pattern.specs.Calls.{table_checks}
use Rattle.pattern.specs.Sets.{receive_set}
use Rattle.mesh.specs.Mesh.{dimension_ok}
use Rattle.area_open.specs.declared.Progress.{Progress}
use Rattle.area.specs.Layout.{area_size}
use Rattle.area.specs.Area.{area_p, area_rank, area_old, area_new, heard, area_sound}
use Rattle.area.specs.Open.{fresh_area}

-- the checks of two tables, a rank and a dimension
unfoldable pub open_checks : List ℕ → List ℕ → ℕ → ℕ → List Check
open_checks old new rank dimension = table_checks old new ++ (check (ltb rank (ranks old) && dimension_ok dimension) 5 ∷ [])

-- how long the area is
unfoldable pub area_length_of : List ℕ → List ℕ → ℕ → ℕ → Length
area_length_of old new rank dimension =
    length_answer (first_failed (open_checks old new rank dimension)) (area_size dimension (ranks old) (tree_count new rank))

-- open an area
unfoldable pub open_area_of : List ℕ → List ℕ → ℕ → ℕ → ℕ → List ℕ → Length × List ℕ
open_area_of old new rank dimension epoch out =
    write_answer
    (first_failed (open_checks old new rank dimension ++ (check (leb (area_size dimension (ranks old) (tree_count new rank)) (length out)) 22 ∷ [])))
    (fresh_area old new rank dimension epoch) out

-- how many senders are heard and how many are due
unfoldable pub progress_of : List ℕ → Progress
progress_of a =
    cond (area_sound a)
    (record { refusal = 0; heard = count_below (area_p a) (heard a); due = length (receive_set (area_old a) (area_new a) (area_rank a)) })
    (record { refusal = 10; heard = 0; due = 0 })
