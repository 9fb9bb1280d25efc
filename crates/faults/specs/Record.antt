-- What may be wrong with a record of a whole mesh or a part, and with its faces. Kinds 7 to 12 and 14 to 16.
use Rattle.std.specs.Prelude.{ℕ, Bool, cond, ◌&&◌, List, [], ◌∷◌, ltb, eqb}
use Rattle.encoding.specs.Below.{any_below, least_below}
use Rattle.encoding.specs.Refusal.{check, first_failed}
use Rattle.records.specs.Shape.{shape_ok, dimension_of, face_count}
use Rattle.records.specs.Record.{shape_of, zeros_ok, region_ok, unused_ok, boundary_ok}
use Rattle.mesh.specs.Link.{orientation_ok, same_corners, answered}
use Rattle.faults.specs.Answer.{Wrong, wrong, is_fault}

-- the kinds without a face
--   7  its number is out of order
--   8  its shape is none of the six
--   9  a zero byte isn't zero, or the region isn't below its limit
--   12 its shape is of the other dimension
unfoldable pub record_kind : Bool → ℕ → List ℕ → ℕ
record_kind in_order dimension r =
    first_failed
    (check in_order 7
    ∷ check (shape_ok (shape_of r)) 8
    ∷ check (zeros_ok r && region_ok r) 9
    ∷ check (eqb (dimension_of (shape_of r)) dimension) 12
    ∷ [])

-- face f, whose link has the kind link f
--   10 the shape doesn't have it, and it isn't marked unused
--   11 it is a boundary, with an orientation
unfoldable pub face_kind : ℕ → List ℕ → (ℕ → ℕ) → ℕ → ℕ
face_kind own r link f = cond (ltb f (face_count (shape_of r))) (cond (boundary_ok own r f) (link f) 11) (cond (unused_ok r f) 0 10)

-- the link of face f of record r to record s, which is to lead back to this number
--   14 the orientation isn't below the corners of the face
--   15 the two faces differ in corners
--   16 the link isn't answered
unfoldable pub link_kind : ℕ → List ℕ → ℕ → List ℕ → ℕ
link_kind back r f s =
    first_failed (check (orientation_ok r f) 14 ∷ check (same_corners r f s) 15 ∷ check (answered back r f s) 16 ∷ [])

-- the least face at which something is wrong, and its kind
unfoldable pub first_face : (ℕ → ℕ) → Wrong
first_face kind =
    cond (any_below 6 (λ f. is_fault (kind f))) (wrong (kind (least_below 6 (λ f. is_fault (kind f)))) (least_below 6 (λ f. is_fault (kind f)))) (wrong 0 0)

-- the kinds without a face come first
unfoldable pub record_wrong : ℕ → Wrong → Wrong
record_wrong kind faces = cond (eqb kind 0) faces (wrong kind 0)
