-- Three triangles in a row, 0 beside 1 beside 2, as parts of the rank that has tree 0: the ghost is tree 1 and no other.
use Prim.Native.Nat.{ℕ}
use mathlib.Core.Path.{◌≡◌, refl}
use mathlib.Core.Bool.{true, false}
use mathlib.Core.List.{List, [], ◌∷◌, ◌++◌}
use lib.ListN.{replicate}
use Rattle.encoding.specs.Below.{all_below, any_below, least_below}
use Rattle.encoding.specs.Numbers.{le_value, le_bytes, le_at}
use Rattle.encoding.specs.Pieces.{piece, splice}
use Rattle.records.specs.Shape.{shape_ok, dimension_of, face_count, faces_in, corners_of, corners}
use Rattle.records.specs.Record.{unused, number_of, shape_of, neighbour_of, code_of, faces_of, face_of, orientation_of, region_of, region_ok, zeros_ok, unused_ok, to_itself, boundary_ok, in_form}
use Rattle.records.specs.Links.{row_of, rows_of, neighbour_bytes, code_bytes, with_rows}
use Rattle.mesh.specs.Link.{orientation_ok, same_corners, answered, link_ok}
use Rattle.mesh.specs.Mesh.{face_neighbour}
use Rattle.part.specs.Cut.{rename_row, renamed}
use Rattle.part.specs.View.{View, tree_in_form, ghost_ascends, ghost_in_form, beside_tree, ghost_near, neighbours_ghostly, ghosts_exact, link_rule, links_obey, links_far, links_hold, records_hold}
use Rattle.part.specs.Part.{part_dimension, part_k, part_first, part_count, part_ghost_count, stored_tree, stored_ghost, global_number, global_tree, view_of}

-- a triangle: its number, the neighbours of its three faces and their codes
unfoldable pub row_triangle : ℕ → ℕ → ℕ → ℕ → ℕ → ℕ → ℕ → List ℕ
row_triangle number a b c x y z =
    le_bytes 4 number
    ++ ((1 ∷ 0 ∷ 0 ∷ 0 ∷ [])
    ++ (le_bytes 4 a ++ (le_bytes 4 b ++ (le_bytes 4 c ++ (le_bytes 4 unused ++ (le_bytes 4 unused ++ (le_bytes 4 unused ++ (x ∷ y ∷ z ∷ 0 ∷ 0 ∷ 0 ∷ 0 ∷ 0 ∷ []))))))))

-- tree 0, across whose face 0 is local index 1; tree 1 between trees 0 and 2; tree 2
unfoldable pub row_part : ℕ → List ℕ → List ℕ
row_part g ghosts = le_bytes 4 2 ++ (le_bytes 4 3 ++ (le_bytes 4 2 ++ (le_bytes 4 0 ++ (le_bytes 4 0 ++ (le_bytes 4 1 ++ (le_bytes 4 g ++ (le_bytes 4 0 ++ (row_triangle 0 1 0 0 0 1 2 ++ (replicate 24 7 ++ ghosts)))))))))

unfoldable pub row_middle : List ℕ
row_middle = row_triangle 1 0 2 1 0 0 2

unfoldable pub row_last : List ℕ
row_last = row_triangle 2 1 2 2 1 1 2

-- the part of rank 0; the same with a ghost that is no neighbour of a tree; and without the neighbour that is a ghost
abbrev pub row_right : View
row_right = view_of (row_part 1 row_middle)

abbrev pub row_stranger : View
row_stranger = view_of (row_part 2 (row_middle ++ row_last))

abbrev pub row_missing : View
row_missing = view_of (row_part 0 [])

-- the first is sound, the others aren't
pub row_parts : (records_hold row_right ≡ true) × (records_hold row_stranger ≡ false) × (records_hold row_missing ≡ false)
unfolding records_hold ghosts_exact links_hold tree_in_form ghost_in_form ghost_ascends beside_tree ghost_near neighbours_ghostly link_rule links_obey links_far face_neighbour link_ok orientation_ok same_corners answered shape_ok dimension_of face_count faces_in corners_of corners number_of shape_of neighbour_of code_of faces_of face_of orientation_of region_ok region_of zeros_ok unused_ok to_itself boundary_ok in_form all_below any_below least_below le_at le_value le_bytes piece splice part_dimension part_k part_first part_count part_ghost_count stored_tree stored_ghost global_number global_tree renamed rename_row row_of rows_of neighbour_bytes code_bytes with_rows row_triangle row_part row_middle row_last
row_parts = (refl, refl, refl)

-- in both it is the ghosts alone that are wrong: forms, order, shapes and links are as they should be
pub row_ghosts : (all_below 1 (tree_in_form row_stranger) ≡ true) × (all_below 2 (ghost_in_form row_stranger) ≡ true) × (links_hold row_stranger ≡ true) × (ghosts_exact row_stranger ≡ false)
    × (all_below 1 (tree_in_form row_missing) ≡ true) × (links_hold row_missing ≡ true) × (ghosts_exact row_missing ≡ false)
unfolding ghosts_exact links_hold tree_in_form ghost_in_form ghost_ascends beside_tree ghost_near neighbours_ghostly link_rule links_obey links_far face_neighbour link_ok orientation_ok same_corners answered shape_ok dimension_of face_count faces_in corners_of corners number_of shape_of neighbour_of code_of faces_of face_of orientation_of region_ok region_of zeros_ok unused_ok to_itself boundary_ok in_form all_below any_below least_below le_at le_value le_bytes piece splice part_dimension part_k part_first part_count part_ghost_count stored_tree stored_ghost global_number global_tree renamed rename_row row_of rows_of neighbour_bytes code_bytes with_rows row_triangle row_part row_middle row_last
row_ghosts = (refl, refl, refl, refl, refl, refl, refl)
