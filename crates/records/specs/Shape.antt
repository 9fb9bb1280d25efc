-- Shapes: 0 quadrilateral, 1 triangle (dimension 2); 2 hexahedron, 3 tetrahedron, 4 prism, 5 pyramid (dimension 3).
use Rattle.std.specs.Prelude.{ℕ, Bool, cond, leb, ltb, eqb}

unfoldable pub shape_ok : ℕ → Bool
shape_ok s = leb s 5

-- the dimension of a shape; 0 for no shape
unfoldable pub dimension_of : ℕ → ℕ
dimension_of s = cond (leb s 1) 2 (cond (leb s 5) 3 0)

-- how many faces a shape has; 0 for no shape
unfoldable pub face_count : ℕ → ℕ
face_count s = cond (eqb s 0) 4 (cond (eqb s 1) 3 (cond (eqb s 2) 6 (cond (eqb s 3) 4 (cond (eqb s 4) 5 (cond (eqb s 5) 5 0)))))

-- F: 4 in dimension 2, 6 in dimension 3
unfoldable pub faces_in : ℕ → ℕ
faces_in dimension = cond (eqb dimension 2) 4 6

-- the corners of a face that the shape has: 2 in dimension 2; hexahedron 4; tetrahedron 3; prism 4 on faces 0 to 2, else 3; pyramid 3 on faces 0 to 3, 4 on face 4
unfoldable pub corners_of : ℕ → ℕ → ℕ
corners_of s f =
    cond (leb s 1) 2
    (cond (eqb s 2) 4
    (cond (eqb s 3) 3
    (cond (eqb s 4) (cond (leb f 2) 4 3)
    (cond (leb f 3) 3 4))))

-- the corners of any face of any shape; 0 for one that isn't there
unfoldable pub corners : ℕ → ℕ → ℕ
corners s f = cond (ltb f (face_count s)) (corners_of s f) 0
