-- Triangles by their vertices, and how their faces meet. Vertex 3 t + i of a list is corner i of triangle t, and face 3 t + i is face i of triangle t, the one across from that corner: there
-- are as many faces as vertices in the list.
use Rattle.std.specs.Prelude.{ℕ, zero, suc, ◌+◌, ◌-◌, ◌*◌, ◌/◌, ◌%◌, Bool, cond, not, ◌&&◌, ◌||◌, List, eqb, length, get_or}
use Rattle.encoding.specs.Below.{all_below, any_below}
use Rattle.mesh_build.specs.Build.{NewLink}

-- corner i of triangle t
unfoldable pub corner_of : List ℕ → ℕ → ℕ → ℕ
corner_of vs t i = get_or vs (3 * t + i) 0

-- a triangle with a vertex twice
unfoldable pub vertex_twice : List ℕ → ℕ → Bool
vertex_twice vs t =
    eqb (corner_of vs t 0) (corner_of vs t 1) || (eqb (corner_of vs t 0) (corner_of vs t 2) || eqb (corner_of vs t 1) (corner_of vs t 2))

-- no triangle is one
unfoldable pub vertices_differ : List ℕ → Bool
vertices_differ vs = all_below (length vs / 3) (λ t. not (vertex_twice vs t))

-- the lower-numbered corner of a face: 1 on face 0 of a triangle, else 0
unfoldable pub first_vertex : List ℕ → ℕ → ℕ
first_vertex vs f = corner_of vs (f / 3) (cond (eqb (f % 3) 0) 1 0)

-- the other one: 1 on face 2 of a triangle, else 2
unfoldable pub second_vertex : List ℕ → ℕ → ℕ
second_vertex vs f = corner_of vs (f / 3) (cond (eqb (f % 3) 2) 1 2)

-- the faces have the same two vertices
unfoldable pub same_set : List ℕ → ℕ → ℕ → Bool
same_set vs f g =
    (eqb (first_vertex vs f) (first_vertex vs g) && eqb (second_vertex vs f) (second_vertex vs g))
    || (eqb (first_vertex vs f) (second_vertex vs g) && eqb (second_vertex vs f) (first_vertex vs g))

-- three faces with one vertex set
unfoldable pub three_faces : List ℕ → Bool
three_faces vs = any_below (length vs) (λ h. any_below h (λ g. same_set vs h g && any_below g (same_set vs h)))

-- the greatest number below n that passes p, and 1 more; 0 where none does
unfoldable pub latest_below : ℕ → (ℕ → Bool) → ℕ
latest_below zero p = 0
latest_below (suc n) p = cond (p n) (suc n) (latest_below n p)

-- g is another face than f, with its vertex set
unfoldable pub meets_face : List ℕ → ℕ → ℕ → Bool
meets_face vs f g = not (eqb g f) && same_set vs f g

-- the face that f meets, and 1 more; 0 where it meets none
unfoldable pub partner : List ℕ → ℕ → ℕ
partner vs f = latest_below (length vs) (meets_face vs f)

-- 0 if the lower-numbered corners of both faces are the same vertex, else 1
unfoldable pub turn_of : List ℕ → ℕ → ℕ → ℕ
turn_of vs f g = cond (eqb (first_vertex vs f) (first_vertex vs g)) 0 1

-- the link of face i of triangle t: to the face that it meets, else the boundary
unfoldable pub face_link : List ℕ → ℕ → ℕ → NewLink
face_link vs t i =
    cond (eqb (partner vs (3 * t + i)) 0)
    (record { neighbour = t; face = i; orientation = 0 })
    (record { neighbour = (partner vs (3 * t + i) - 1) / 3; face = (partner vs (3 * t + i) - 1) % 3; orientation = turn_of vs (3 * t + i) (partner vs (3 * t + i) - 1) })
