-- A whole mesh of one shape, written from a function of links, and when it is sound.
use Rattle.std.specs.Prelude.{ℕ, zero, suc, ◌≤◌, ◌<◌, ◌≡◌, true, cond, List, [], ◌∷◌, ◌++◌, ltb, replicate}
use Rattle.encoding.specs.Numbers.{le_bytes}
use Rattle.offsets.specs.Limits.{tree_count_ok}
use Rattle.records.specs.Shape.{dimension_of, face_count, faces_in, corners}
use Rattle.records.specs.Record.{unused}
use Rattle.records.specs.Links.{with_rows}
use Rattle.mesh.specs.Mesh.{mesh_sound}

-- the link of a face: the neighbour across it, the neighbour's face, and the orientation
pub record NewLink : Type 0 where
  pub neighbour : ℕ
  pub face : ℕ
  pub orientation : ℕ

-- the row of face f in a record of the shape: its link, or the mark of a face that the shape doesn't have
unfoldable pub face_row : ℕ → (ℕ → NewLink) → ℕ → List ℕ
face_row shape link f = cond (ltb f (face_count shape)) ((link f).neighbour ∷ (link f).face ∷ (link f).orientation ∷ []) (unused ∷ 0 ∷ 0 ∷ [])

-- the six rows
unfoldable pub tree_rows : ℕ → (ℕ → NewLink) → List (List ℕ)
tree_rows shape link = face_row shape link 0 ∷ face_row shape link 1 ∷ face_row shape link 2 ∷ face_row shape link 3 ∷ face_row shape link 4 ∷ face_row shape link 5 ∷ []

-- a core record of that number, shape and rows; every other byte is 0, so its region is 0
unfoldable pub new_core : ℕ → ℕ → List (List ℕ) → List ℕ
new_core number shape rows = with_rows rows (faces_in (dimension_of shape)) (le_bytes 4 number ++ (shape ∷ replicate 35 0))

-- a tree record, its tree data 0
unfoldable pub new_tree : ℕ → ℕ → List (List ℕ) → List ℕ
new_tree number shape rows = new_core number shape rows ++ replicate 24 0

-- dimension and K
unfoldable pub new_header : ℕ → ℕ → List ℕ
new_header shape K = le_bytes 4 (dimension_of shape) ++ le_bytes 4 K

-- every tree has the shape; link k f is the link of face f of tree k
module _ (shape : ℕ) (link : ℕ → ℕ → NewLink) where
  -- the records of the trees below n
  unfoldable pub built_trees : ℕ → List ℕ
  built_trees zero = []
  built_trees (suc n) = built_trees n ++ new_tree n shape (tree_rows shape (link n))

  -- the whole mesh of K trees
  unfoldable pub built_mesh : ℕ → List ℕ
  built_mesh K = new_header shape K ++ built_trees K

  -- links that make a mesh of K trees
  pub record LinksFit (K : ℕ) : Type 0 where
    pub shape_there : shape ≤ 5
    pub trees : tree_count_ok K ≡ true
    -- every neighbour is a tree
    pub below : (k f : ℕ) → k < K → f < face_count shape → (link k f).neighbour < K
    -- the orientation is below the corners of the face
    pub turned : (k f : ℕ) → k < K → f < face_count shape → (link k f).orientation < corners shape f
    -- both faces have as many corners
    pub alike : (k f : ℕ) → k < K → f < face_count shape → corners shape f ≡ corners shape (link k f).face
    -- the neighbour's link leads back, with the same orientation
    pub answers : (k f : ℕ) → k < K → f < face_count shape
        → link (link k f).neighbour (link k f).face ≡ record { neighbour = k; face = f; orientation = (link k f).orientation }
    -- a link from a face to itself is the boundary, with orientation 0
    pub boundary : (k f : ℕ) → k < K → f < face_count shape → (link k f).neighbour ≡ k → (link k f).face ≡ f → (link k f).orientation ≡ 0

-- such a mesh is sound
abbrev pub BuiltSound : Type 0
BuiltSound = (shape : ℕ) (link : ℕ → ℕ → NewLink) (K : ℕ) → LinksFit shape link K → mesh_sound (built_mesh shape link K) ≡ true
