-- What the calls answer, refusals included, and what they leave in the lent bytes.
use Rattle.std.specs.Prelude.{ℕ, ◌+◌, ◌*◌, Bool, not, ◌&&◌, List, [], ◌∷◌, leb, eqb, length}
use Rattle.encoding.specs.declared.answer.Length.{Length}
use Rattle.encoding.specs.Answer.{length_answer, write_answer}
use Rattle.encoding.specs.Refusal.{check, first_failed}
use Rattle.records.specs.Record.{tree_size}
use Rattle.mesh.specs.Mesh.{mesh_header}
use Rattle.brick.specs.Brick.{brick_mesh}

-- extents go from 1 to this number
abbrev pub max_extent : ℕ
max_extent = 64

unfoldable pub extent_ok : ℕ → Bool
extent_ok e = leb 1 e && leb e max_extent

unfoldable pub extents_ok : ℕ → ℕ → ℕ → Bool
extents_ok a b c = extent_ok a && extent_ok b && extent_ok c

-- how a periodic axis is told: 0 is no, any other number yes
unfoldable pub yes : ℕ → Bool
yes n = not (eqb n 0)

-- how long the mesh of a brick is, whichever axes are periodic
unfoldable pub brick_length_of : ℕ → ℕ → ℕ → Length
brick_length_of a b c = length_answer (first_failed (check (extents_ok a b c) 26 ∷ [])) (mesh_header + tree_size * (a * b * c))

-- write it
unfoldable pub write_brick_of : ℕ → ℕ → ℕ → ℕ → ℕ → ℕ → List ℕ → Length × List ℕ
write_brick_of a b c p q r out =
    write_answer (first_failed (check (extents_ok a b c) 26 ∷ check (leb (length (brick_mesh a b c (yes p) (yes q) (yes r))) (length out)) 22 ∷ []))
    (brick_mesh a b c (yes p) (yes q) (yes r)) out
