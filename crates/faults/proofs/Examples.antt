-- A small mesh, with its first fault, computed on the definitions.
use mathlib.Core.Path.{◌≡◌, refl}
use mathlib.Core.List.{[], ◌∷◌}
use Rattle.encoding.specs.Below.{any_below, least_below}
use Rattle.encoding.specs.Pieces.{piece}
use Rattle.encoding.specs.Numbers.{le_value, le_bytes, le_at}
use Rattle.encoding.specs.Refusal.{first_failed}
use Rattle.offsets.specs.Limits.{tree_count_ok}
use Rattle.records.specs.Shape.{shape_ok, dimension_of, face_count, faces_in, corners_of, corners}
use Rattle.records.specs.Record.{number_of, shape_of, neighbour_of, code_of, faces_of, face_of, orientation_of, region_of, region_ok, zeros_ok, unused_ok, to_itself, boundary_ok}
use Rattle.mesh.specs.Link.{orientation_ok, same_corners, answered}
use Rattle.mesh.specs.Mesh.{mesh_dimension, mesh_trees, dimension_ok, mesh_core, header_sound}
use Rattle.mesh.proofs.Examples.{numbers, tree_bytes, periodic}
use Rattle.faults.specs.Answer.{wrong, no_fault, fault_at, first_place, first_fault}
use Rattle.faults.specs.Record.{record_kind, face_kind, link_kind, first_face, record_wrong}
use Rattle.faults.specs.Mesh.{tree_link_kind, tree_face_kind, tree_wrong}
use Rattle.faults.specs.Calls.{mesh_fault_of}

-- a quadrilateral whose face 2 leads to face 3 with orientation 1, which answers with 0: tree 0, face 2: link not answered
pub mesh_told : (mesh_fault_of (periodic (1 ∷ 0 ∷ 7 ∷ 6 ∷ 0 ∷ 0 ∷ [])) ≡ no_fault) × (mesh_fault_of (periodic (1 ∷ 0 ∷ 7 ∷ 2 ∷ 0 ∷ 0 ∷ [])) ≡ fault_at 7 0 (wrong 16 2))
unfolding mesh_fault_of first_fault first_place any_below least_below tree_wrong tree_face_kind tree_link_kind record_kind face_kind link_kind first_face record_wrong first_failed header_sound mesh_dimension mesh_trees dimension_ok tree_count_ok mesh_core orientation_ok same_corners answered shape_ok dimension_of face_count faces_in corners_of corners number_of shape_of neighbour_of code_of faces_of face_of orientation_of region_of region_ok zeros_ok unused_ok to_itself boundary_ok le_at le_value le_bytes piece numbers tree_bytes periodic
mesh_told = (refl, refl)
