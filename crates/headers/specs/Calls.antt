-- What the calls answer, refusals included.
use Rattle.std.specs.Prelude.{ℕ, cond, List, eqb}
use Rattle.encoding.specs.Refusal.{first_failed}
use Rattle.part.specs.Checks.{rank_checks}
use Rattle.headers.specs.declared.answer.WrongField.{WrongField}
use Rattle.headers.specs.Answer.{header_refused, first_wrong}
use Rattle.headers.specs.Fields.{part_fields, mesh_fields}

-- what is wrong, or the refusal alone
unfoldable pub header_answer : ℕ → WrongField → WrongField
header_answer refusal wrong = cond (eqb refusal 0) wrong (header_refused refusal)

-- what is wrong with the header or the length of a part
unfoldable pub part_header_of : List ℕ → List ℕ → ℕ → WrongField
part_header_of part table rank = header_answer (first_failed (rank_checks table rank)) (first_wrong (part_fields part table rank))

-- what is wrong with those of a whole mesh
unfoldable pub mesh_header_of : List ℕ → WrongField
mesh_header_of m = first_wrong (mesh_fields m)
