-- How long a part is, and cutting it out: refusals included, and what is left in the lent buffer.
use Rattle.std.specs.Prelude.{ℕ, ◌&&◌, List, [], ◌∷◌, ◌++◌, leb, eqb, length}
use Rattle.encoding.specs.Answer.{length_answer, write_answer}
use Rattle.encoding.specs.Refusal.{Check, check, first_failed}
use Rattle.encoding.specs.declared.answer.Length.{Length}
use Rattle.offsets.specs.Table.{trees}
use Rattle.mesh.specs.Mesh.{mesh_sound, mesh_trees}
use Rattle.part.specs.Cut.{cut_part}
use Rattle.part.specs.Checks.{rank_checks}

-- the checks of a mesh, a table and a rank
unfoldable pub cut_checks : List ℕ → List ℕ → ℕ → List Check
cut_checks mesh table rank = rank_checks table rank ++ (check (mesh_sound mesh && eqb (mesh_trees mesh) (trees table)) 7 ∷ [])

-- how long the part is
unfoldable pub part_length_of : List ℕ → List ℕ → ℕ → Length
part_length_of mesh table rank = length_answer (first_failed (cut_checks mesh table rank)) (length (cut_part mesh table rank))

-- cut out the part
unfoldable pub cut_part_of : List ℕ → List ℕ → ℕ → List ℕ → Length × List ℕ
cut_part_of mesh table rank out =
    write_answer (first_failed (cut_checks mesh table rank ++ (check (leb (length (cut_part mesh table rank)) (length out)) 22 ∷ []))) (cut_part mesh table rank) out
