-- The rule of a link between two records, over any way to find a record by its number: whole meshes and parts use it.
use Rattle.std.specs.Prelude.{ℕ, Bool, ◌&&◌, List, ltb, eqb}
use Rattle.records.specs.Shape.{corners}
use Rattle.records.specs.Record.{shape_of, neighbour_of, face_of, orientation_of}

-- the orientation is below the corners of the face
unfoldable pub orientation_ok : List ℕ → ℕ → Bool
orientation_ok r f = ltb (orientation_of r f) (corners (shape_of r) f)

-- both faces have as many corners; a neighbour's face that isn't there has none
unfoldable pub same_corners : List ℕ → ℕ → List ℕ → Bool
same_corners r f s = eqb (corners (shape_of r) f) (corners (shape_of s) (face_of r f))

-- the link of face f of record r, whose number is k, is answered by record s: its face there leads back to k and f, with the same orientation
unfoldable pub answered : ℕ → List ℕ → ℕ → List ℕ → Bool
answered k r f s =
    eqb (neighbour_of s (face_of r f)) k && eqb (face_of s (face_of r f)) f && eqb (orientation_of s (face_of r f)) (orientation_of r f)

-- the whole rule; core n is the record with number n
unfoldable pub link_ok : (ℕ → List ℕ) → ℕ → ℕ → Bool
link_ok core k f =
    orientation_ok (core k) f && same_corners (core k) f (core (neighbour_of (core k) f)) && answered k (core k) f (core (neighbour_of (core k) f))
