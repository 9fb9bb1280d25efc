-- What is proved of the mesh beyond the calls' contracts.
use Rattle.std.specs.Prelude.{ℕ, ◌+◌, ◌*◌, ◌<◌, ◌≡◌, true, false, List, length, take}
use Rattle.records.specs.Record.{neighbour_of, face_of, orientation_of}
use Rattle.mesh.specs.Mesh.{mesh_sound, mesh_trees, mesh_core, mesh_refusal}
use Rattle.ele_text.specs.Text.{text_ok, vertices, triangles}
use Rattle.ele_faces.specs.Faces.{same_set, vertices_differ, first_vertex}
use Rattle.ele_mesh.specs.Calls.{triangle_mesh, triangle_refusal, triangle_length, import_triangle}

-- the mesh of an accepted text is sound
abbrev pub TrianglesSound : Type 0
TrianglesSound = (text : List ℕ) → triangle_refusal text ≡ 0 → mesh_sound (triangle_mesh text) ≡ true

-- face i of tree t is linked to face j of tree u
abbrev pub Joined : List ℕ → ℕ → ℕ → ℕ → ℕ → Type 0
Joined mesh t i u j = (neighbour_of (mesh_core mesh t) i ≡ u) × (face_of (mesh_core mesh t) i ≡ j)

-- the links of a mesh whose triangles have these vertices
pub record JoinsSets (vs mesh : List ℕ) (n : ℕ) : Type 0 where
  pub trees : mesh_trees mesh ≡ n
  -- two faces are linked if they are different and have one vertex set
  pub joins : (t i u j : ℕ) → t < n → i < 3 → u < n → j < 3 → (3 * t + i ≡ 3 * u + j → ⊥) → same_set vs (3 * t + i) (3 * u + j) ≡ true → Joined mesh t i u j
  -- linked to another face, a face has its vertex set
  pub alike : (t i u j : ℕ) → t < n → i < 3 → u < n → j < 3 → (3 * t + i ≡ 3 * u + j → ⊥) → Joined mesh t i u j → same_set vs (3 * t + i) (3 * u + j) ≡ true
  -- every other face is the boundary
  pub boundary : (t i : ℕ) → t < n → i < 3 → ((g : ℕ) → g < 3 * n → (g ≡ 3 * t + i → ⊥) → same_set vs (3 * t + i) g ≡ false) → Joined mesh t i t i
  -- the orientation of linked faces is 0 if their lower-numbered corners are the same vertex, else 1
  pub turned : (t i u j : ℕ) → t < n → i < 3 → u < n → j < 3 → (3 * t + i ≡ 3 * u + j → ⊥) → Joined mesh t i u j
      → ((first_vertex vs (3 * t + i) ≡ first_vertex vs (3 * u + j) → orientation_of (mesh_core mesh t) i ≡ 0)
      × ((first_vertex vs (3 * t + i) ≡ first_vertex vs (3 * u + j) → ⊥) → orientation_of (mesh_core mesh t) i ≡ 1))

-- the mesh of an accepted text joins exactly the pairs of faces with equal vertex sets
abbrev pub TrianglesJoin : Type 0
TrianglesJoin = (text : List ℕ) → triangle_refusal text ≡ 0 → JoinsSets (vertices text) (triangle_mesh text) (triangles text)

-- what an accepted import writes at the beginning of its buffer
abbrev pub imported_mesh : List ℕ → List ℕ → List ℕ
imported_mesh text out = take (import_triangle text out).0.length (import_triangle text out).1

-- it passes the check of a whole mesh, is joined as the text says, and is as long as the other call says
pub record Imported (text out : List ℕ) : Type 0 where
  pub sound : mesh_refusal (imported_mesh text out) ≡ 0
  pub joined : JoinsSets (vertices text) (imported_mesh text out) (triangles text)
  pub long : (import_triangle text out).0 ≡ triangle_length text

abbrev pub ImportsSound : Type 0
ImportsSound = (text out : List ℕ) → (import_triangle text out).0.refusal ≡ 0 → Imported text out

-- three different faces with one vertex set
abbrev pub Three : List ℕ → Type 0
Three vs = (f : ℕ) × (g : ℕ) × (h : ℕ) × ((f < g) × (g < h) × (h < length vs)) × ((same_set vs h g ≡ true) × (same_set vs h f ≡ true))

-- 29 comes exactly where a text in form, no triangle of which has a vertex twice, has three such faces
pub record EdgeRefused (text : List ℕ) : Type 0 where
  pub given : text_ok text ≡ true → vertices_differ (vertices text) ≡ true → Three (vertices text) → triangle_refusal text ≡ 29
  pub only : triangle_refusal text ≡ 29 → (text_ok text ≡ true) × (vertices_differ (vertices text) ≡ true) × Three (vertices text)

abbrev pub EdgesRefused : Type 0
EdgesRefused = (text : List ℕ) → EdgeRefused text
