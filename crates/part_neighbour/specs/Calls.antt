-- What the neighbour call answers, refusals included.
use Rattle.std.specs.Prelude.{ℕ, cond, ◌&&◌, List, [], ◌∷◌, ltb, eqb, Ok, Err}
use Rattle.std.specs.declared.result.Result.{Result}
use Rattle.encoding.specs.declared.refusal.Refusal.{Refusal}
use Rattle.encoding.specs.Refusals.{refusal_number}
use Rattle.encoding.specs.Refusal.{Check, check, first_failed}
use Rattle.offsets.specs.Table.{ranks, ranks_ok, valid, tree_count}
use Rattle.records.specs.Record.{shape_of}
use Rattle.part_neighbour.specs.declared.link.Neighbour.{Neighbour}
use Rattle.part_neighbour.specs.declared.link.Link.TheVariants.{Boundary}
use Rattle.part.specs.Part.{stored_tree, part_sound}
use Rattle.part_neighbour.specs.Neighbour.{across, link_of, Answered}

-- the refusal alone
abbrev pub neighbour_refused : ℕ → Answered
neighbour_refused refusal = record { refusal = refusal; shape = 0; link = Boundary (across 0 0 0) }

-- the checks of a part, a table, a rank, a local index and a face
unfoldable pub neighbour_checks : List ℕ → List ℕ → ℕ → ℕ → ℕ → List Check
neighbour_checks part table rank i f =
    check (ranks_ok table) 2 ∷ check (valid table) 3 ∷ check (ltb rank (ranks table) && ltb i (tree_count table rank) && ltb f 6) 5
    ∷ check (part_sound part table rank) 8 ∷ []

-- what stands across face f of tree i
unfoldable pub neighbour_answer : List ℕ → List ℕ → ℕ → ℕ → ℕ → Answered
neighbour_answer part table rank i f =
    cond (eqb (first_failed (neighbour_checks part table rank i f)) 0)
    (record { refusal = 0; shape = shape_of (stored_tree part i); link = link_of part i f })
    (neighbour_refused (first_failed (neighbour_checks part table rank i f)))

-- what the code answers, as numbers and a link
abbrev pub answered_of : Result Neighbour Refusal → Answered
answered_of (Ok n) = record { refusal = 0; shape = n.shape; link = n.link }
answered_of (Err e) = neighbour_refused (refusal_number e)
