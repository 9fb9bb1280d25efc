-- Means, no part of what is promised: the hash of a face, and vertices of whole triangles.
use Rattle.std.specs.Prelude.{ℕ, ◌+◌, ◌*◌, ◌%◌, ◌≤◌, ◌≡◌, cond, List, ltb, length}
use Rattle.ele_text.specs.Text.{max_triangles}
use Rattle.ele_faces.specs.Faces.{first_vertex, second_vertex}

-- of the two vertices, whichever stands first, one of m hashes
unfoldable pub mixed : ℕ → ℕ → ℕ → ℕ
mixed m a b = cond (ltb a b) ((4294967296 * a + b) % m) ((4294967296 * b + a) % m)

unfoldable pub hash_of : List ℕ → ℕ → ℕ → ℕ
hash_of vs m f = mixed m (first_vertex vs f) (second_vertex vs f)

-- vertices of whole triangles
pub record Whole (vs : List ℕ) : Type 0 where
  pub threes : length vs % 3 ≡ 0
  pub most : length vs ≤ 3 * max_triangles
