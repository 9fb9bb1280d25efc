-- Means, no part of what is promised: what the inner tests of the form check give, and the corners as the code works them out.
use Rattle.std.specs.Prelude.{ℕ, ◌+◌, ◌-◌, ◌/◌, ◌%◌, Bool, true, cond, not, ◌&&◌, List, leb, ltb, eqb}
use Rattle.encoding.specs.Below.{all_below, any_below}
use Rattle.records.specs.Shape.{face_count}
use Rattle.records.specs.Record.{number_of, shape_of, neighbour_of, zeros_ok, region_ok, boundary_ok, unused_ok}

-- one face of a record in form, of those that the shape has or not
unfoldable pub face_form : ℕ → List ℕ → ℕ → Bool
face_form own r f = cond (ltb f (face_count (shape_of r))) (boundary_ok own r f) (unused_ok r f)

-- a face that a shape with c faces doesn't have
unfoldable pub unused_from : ℕ → List ℕ → ℕ → Bool
unused_from c r f = cond (ltb f c) true (unused_ok r f)

-- the neighbour of face f is k
unfoldable pub leads_to : ℕ → List ℕ → ℕ → Bool
leads_to k r f = eqb (neighbour_of r f) k

-- a record with shape s, which has c faces, and number k: in form but for its boundaries
unfoldable pub alike_form : ℕ → ℕ → ℕ → List ℕ → Bool
alike_form s c k r = eqb (number_of r) k && eqb (shape_of r) s && zeros_ok r && region_ok r && all_below 6 (unused_from c r)

-- a hexahedron with number own, of which no face leads to itself: such a record is in form
unfoldable pub plain_form : ℕ → List ℕ → Bool
plain_form own r = alike_form 2 6 own r && not (any_below 6 (leads_to own r))

-- the corners of the polygon that a solid is drawn out from
unfoldable pub base_corners : ℕ → ℕ
base_corners s = 3 + s % 3 / 2

-- the corners of a face by a formula. In dimension 2 a shape has 4 - s faces; a solid has a face for each side of its base, with 4 corners, or 3 where it is drawn out to a point (s odd), and then its base, once or twice.
unfoldable pub corners_formula : ℕ → ℕ → ℕ
corners_formula s f =
    cond (ltb 5 s) 0
    (cond (leb s 1) (cond (ltb f (4 - s)) 2 0)
    (cond (ltb f (base_corners s)) (4 - s % 2)
    (cond (ltb f (base_corners s + (2 - s % 2))) (base_corners s) 0)))
