-- What is proved of the first wrong field beyond the calls' contracts.
use Rattle.std.specs.Prelude.{ℕ, ◌≡◌, ◌&&◌, List, eqb, length}
use Rattle.encoding.specs.Refusal.{first_failed}
use Rattle.mesh.specs.Mesh.{header_sound, mesh_refusal}
use Rattle.part.specs.Layout.{part_size}
use Rattle.part.specs.Part.{part_count, part_ghost_count, part_header_sound}
use Rattle.part.specs.Checks.{rank_checks}
use Rattle.part_check.specs.Calls.{part_refusal}
use Rattle.headers.specs.Answer.{none_wrong}
use Rattle.headers.specs.Calls.{part_header_of, mesh_header_of}

-- no field is wrong exactly where the header's part of soundness holds: of every part, those shorter than a header too, for a valid table and a rank of it
abbrev pub PartHeaderAsSound : Type 0
PartHeaderAsSound =
    (part table : List ℕ) (rank : ℕ) → first_failed (rank_checks table rank) ≡ 0
    → eqb (part_header_of part table rank).field 0 ≡ (part_header_sound part table rank && eqb (length part) (part_size (part_count part) (part_ghost_count part)))

-- and of every mesh
abbrev pub MeshHeaderAsSound : Type 0
MeshHeaderAsSound = (m : List ℕ) → eqb (mesh_header_of m).field 0 ≡ header_sound m

-- nothing is wrong with a part that its check accepts
abbrev pub PartHeaderAccepted : Type 0
PartHeaderAccepted = (part table : List ℕ) (rank : ℕ) → part_refusal part table rank ≡ 0 → part_header_of part table rank ≡ none_wrong

-- nor with such a mesh
abbrev pub MeshHeaderAccepted : Type 0
MeshHeaderAccepted = (m : List ℕ) → mesh_refusal m ≡ 0 → mesh_header_of m ≡ none_wrong
