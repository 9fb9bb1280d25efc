-- Small meshes, computed on the definitions.
use Prim.Native.Nat.{ℕ}
use mathlib.Core.Path.{◌≡◌, refl}
use mathlib.Core.Bool.{true, false}
use mathlib.Core.List.{List, [], ◌∷◌, ◌++◌}
use lib.ListN.{replicate}
use Rattle.encoding.specs.Below.{all_below}
use Rattle.encoding.specs.Numbers.{le_value, le_bytes, le_at}
use Rattle.encoding.specs.Pieces.{piece}
use Rattle.offsets.specs.Limits.{tree_count_ok}
use Rattle.records.specs.Shape.{shape_ok, dimension_of, face_count, faces_in, corners_of, corners}
use Rattle.records.specs.Record.{number_of, shape_of, neighbour_of, code_of, faces_of, face_of, orientation_of, region_of, region_ok, zeros_ok, unused, unused_ok, to_itself, boundary_ok, in_form}
use Rattle.mesh.specs.Link.{orientation_ok, same_corners, answered, link_ok}
use Rattle.mesh.specs.Mesh.{mesh_dimension, mesh_trees, dimension_ok, mesh_core, face_sound, tree_sound, header_sound, mesh_sound}

-- numbers of four bytes, one after the other
unfoldable pub numbers : List ℕ → List ℕ
numbers [] = []
numbers (n ∷ ns) = le_bytes 4 n ++ numbers ns

-- a tree record of a number, a shape, six neighbours and six face codes, its tree data 0
unfoldable pub tree_bytes : ℕ → ℕ → List ℕ → List ℕ → List ℕ
tree_bytes number shape neighbours codes = le_bytes 4 number ++ (shape ∷ 0 ∷ 0 ∷ 0 ∷ []) ++ numbers neighbours ++ codes ++ replicate 26 0

-- a triangle whose face 0 meets face 1 of tree n, and whose face 1 meets face 0 of tree m; face 2 is the boundary
unfoldable pub triangle : ℕ → ℕ → ℕ → List ℕ
triangle k n m = tree_bytes k 1 (n ∷ m ∷ k ∷ unused ∷ unused ∷ unused ∷ []) (1 ∷ 0 ∷ 2 ∷ 0 ∷ 0 ∷ 0 ∷ [])

-- document 01's three triangles
unfoldable pub triangles : List ℕ
triangles = numbers (2 ∷ 3 ∷ []) ++ triangle 0 1 2 ++ triangle 1 2 0 ++ triangle 2 0 1

-- a quadrilateral each of whose faces leads to itself, the face codes given
unfoldable pub periodic : List ℕ → List ℕ
periodic codes = numbers (2 ∷ 1 ∷ []) ++ tree_bytes 0 0 (0 ∷ 0 ∷ 0 ∷ 0 ∷ unused ∷ unused ∷ []) codes

-- the three triangles are sound, and so is a quadrilateral whose faces 0 and 1 are linked to each other and, with orientation 1, faces 2 and 3; it isn't where face 3 answers with orientation 0
pub small_meshes : (mesh_sound triangles ≡ true) × (mesh_sound (periodic (1 ∷ 0 ∷ 7 ∷ 6 ∷ 0 ∷ 0 ∷ [])) ≡ true) × (mesh_sound (periodic (1 ∷ 0 ∷ 7 ∷ 2 ∷ 0 ∷ 0 ∷ [])) ≡ false)
unfolding mesh_sound header_sound mesh_dimension mesh_trees dimension_ok tree_count_ok mesh_core tree_sound face_sound link_ok orientation_ok same_corners answered shape_ok dimension_of face_count faces_in corners_of corners number_of shape_of neighbour_of code_of faces_of face_of orientation_of region_of region_ok zeros_ok unused_ok to_itself boundary_ok in_form all_below le_at le_value le_bytes piece numbers tree_bytes triangle triangles periodic
small_meshes = (refl, refl, refl)
