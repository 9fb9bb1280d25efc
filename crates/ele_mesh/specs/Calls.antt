-- What each public call answers, refusals included, and what it leaves in the lent buffer.
use Rattle.std.specs.Prelude.{ℕ, ◌+◌, ◌*◌, not, List, [], ◌∷◌, leb, length}
use Rattle.encoding.specs.Answer.{length_answer, write_answer}
use Rattle.encoding.specs.Refusal.{check, first_failed}
use Rattle.encoding.specs.declared.answer.Length.{Length}
use Rattle.records.specs.Record.{tree_size}
use Rattle.mesh.specs.Mesh.{mesh_header}
use Rattle.mesh_build.specs.Build.{built_mesh}
use Rattle.ele_text.specs.Text.{text_ok, vertices, triangles}
use Rattle.ele_faces.specs.Faces.{vertices_differ, three_faces, face_link}

-- the mesh of the text: a triangle, shape 1, for each of its triangles
unfoldable pub triangle_mesh : List ℕ → List ℕ
triangle_mesh text = built_mesh 1 (face_link (vertices text)) (triangles text)

-- its length
unfoldable pub triangle_bytes : List ℕ → ℕ
triangle_bytes text = mesh_header + tree_size * triangles text

unfoldable pub triangle_refusal : List ℕ → ℕ
triangle_refusal text = first_failed (check (text_ok text) 27 ∷ check (vertices_differ (vertices text)) 28 ∷ check (not (three_faces (vertices text))) 29 ∷ [])

unfoldable pub import_refusal : List ℕ → List ℕ → ℕ
import_refusal text out =
    first_failed
    (check (text_ok text) 27
    ∷ check (vertices_differ (vertices text)) 28
    ∷ check (not (three_faces (vertices text))) 29
    ∷ check (leb (triangle_bytes text) (length out)) 22
    ∷ [])

-- how long the mesh is
unfoldable pub triangle_length : List ℕ → Length
triangle_length text = length_answer (triangle_refusal text) (triangle_bytes text)

-- write the mesh
unfoldable pub import_triangle : List ℕ → List ℕ → Length × List ℕ
import_triangle text out = write_answer (import_refusal text out) (triangle_mesh text) out
