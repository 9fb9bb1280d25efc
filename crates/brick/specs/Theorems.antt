-- What is proved of bricks beyond the calls' contracts.
use Rattle.std.specs.Prelude.{ℕ, ◌*◌, ◌<◌, ◌≡◌, Bool, true, List, take}
use Rattle.records.specs.Record.{neighbour_of, face_of, orientation_of}
use Rattle.mesh.specs.Mesh.{mesh_core, mesh_sound, mesh_refusal}
use Rattle.brick.specs.Brick.{brick_link, brick_mesh}
use Rattle.brick.specs.Calls.{extents_ok, brick_length_of, write_brick_of}

-- the mesh of a brick is sound, for all extents and whichever axes are periodic
abbrev pub BrickSound : Type 0
BrickSound = (a b c : ℕ) (p q r : Bool) → extents_ok a b c ≡ true → mesh_sound (brick_mesh a b c p q r) ≡ true

-- so what an accepted call writes passes the check of a whole mesh
abbrev pub WritesSound : Type 0
WritesSound =
    (a b c p q r : ℕ) (out : List ℕ) → (write_brick_of a b c p q r out).0.refusal ≡ 0
    → mesh_refusal (take (write_brick_of a b c p q r out).0.length (write_brick_of a b c p q r out).1) ≡ 0

-- the record of tree k says of each face what stands across it
abbrev pub BrickLinks : Type 0
BrickLinks =
    (a b c : ℕ) (p q r : Bool) → extents_ok a b c ≡ true → (k f : ℕ) → k < a * b * c → f < 6
    → (neighbour_of (mesh_core (brick_mesh a b c p q r) k) f ≡ (brick_link a b c p q r k f).neighbour)
    × (face_of (mesh_core (brick_mesh a b c p q r) k) f ≡ (brick_link a b c p q r k f).face)
    × (orientation_of (mesh_core (brick_mesh a b c p q r) k) f ≡ 0)

-- a brick that is written is as long as the other call says
abbrev pub BrickLength : Type 0
BrickLength = (a b c p q r : ℕ) (out : List ℕ) → (write_brick_of a b c p q r out).0.refusal ≡ 0 → (write_brick_of a b c p q r out).0 ≡ brick_length_of a b c
