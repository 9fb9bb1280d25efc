-- A file of two triangles, computed on the definitions.
use Prim.Native.Nat.{ℕ}
use mathlib.Core.Path.{◌≡◌, refl}
use mathlib.Core.List.{List, [], ◌∷◌, ◌++◌}
use lib.ListN.{replicate}
use Rattle.encoding.specs.Answer.{length_answer, written, write_answer}
use Rattle.encoding.specs.Below.{all_below, any_below}
use Rattle.encoding.specs.Numbers.{le_bytes}
use Rattle.encoding.specs.Pieces.{splice}
use Rattle.encoding.specs.Refusal.{first_failed}
use Rattle.records.specs.Shape.{dimension_of, face_count, faces_in}
use Rattle.records.specs.Record.{unused}
use Rattle.records.specs.Links.{neighbour_bytes, code_bytes, with_rows}
use Rattle.mesh_build.specs.Build.{face_row, tree_rows, new_core, new_tree, new_header, built_trees, built_mesh}
use Rattle.ele_text.specs.Text.{is_either, on_first, pieces, is_empty, first_piece, but_last, last_piece, filled, lines, ended, fields, rows, is_digit, digits_value, is_number, field_number, row_number, all_numbers, row_ok, head_ok, numbered, rows_ok, text_ok, behind_first, vertices_of, vertices, triangles}
use Rattle.ele_faces.specs.Faces.{corner_of, vertex_twice, vertices_differ, first_vertex, second_vertex, same_set, three_faces, latest_below, meets_face, partner, turn_of, face_link}
use Rattle.ele_mesh.specs.Calls.{triangle_mesh, triangle_bytes, import_refusal, import_triangle}

-- "# a", "2 3 0", "1", a tab and "1 2 3", "2 3 2 4", a line each: a comment, and triangles numbered from 1
abbrev file : List ℕ
file =
    (35 ∷ 32 ∷ 97 ∷ 10 ∷ [])
    ++ ((50 ∷ 32 ∷ 51 ∷ 32 ∷ 48 ∷ 10 ∷ [])
    ++ ((49 ∷ 9 ∷ 49 ∷ 32 ∷ 50 ∷ 32 ∷ 51 ∷ 10 ∷ [])
    ++ (50 ∷ 32 ∷ 51 ∷ 32 ∷ 50 ∷ 32 ∷ 52 ∷ 10 ∷ [])))

-- a triangle's record: its number, what stands across its three faces, and its three face codes
abbrev triangle : ℕ → ℕ → ℕ → ℕ → List ℕ → List ℕ
triangle k a b c codes =
    le_bytes 4 k ++ ((1 ∷ 0 ∷ 0 ∷ 0 ∷ [])
    ++ (le_bytes 4 a ++ (le_bytes 4 b ++ (le_bytes 4 c ++ (le_bytes 4 unused ++ (le_bytes 4 unused ++ (le_bytes 4 unused ++ (codes ++ replicate 29 0))))))))

-- face 0 of triangle 0 has vertices 2 and 3, face 2 of triangle 1 has 3 and 2: they meet with orientation 1, and all others are the boundary
pub two_triangles : import_triangle file (replicate 140 9)
    ≡ (record { refusal = 0; length = 136 }, (le_bytes 4 2 ++ le_bytes 4 2) ++ (triangle 0 1 0 0 (6 ∷ 1 ∷ 2 ∷ []) ++ (triangle 1 1 1 0 (0 ∷ 1 ∷ 4 ∷ []) ++ replicate 4 9)))
unfolding import_triangle import_refusal write_answer length_answer written splice first_failed all_below any_below le_bytes text_ok ended lines rows fields filled last_piece but_last first_piece is_empty pieces on_first is_either is_digit digits_value is_number field_number row_number all_numbers row_ok head_ok numbered rows_ok behind_first vertices_of vertices triangles corner_of vertex_twice vertices_differ first_vertex second_vertex same_set three_faces latest_below meets_face partner turn_of face_link triangle_mesh triangle_bytes face_row tree_rows new_core new_tree new_header built_trees built_mesh dimension_of face_count faces_in neighbour_bytes code_bytes with_rows
two_triangles = refl
