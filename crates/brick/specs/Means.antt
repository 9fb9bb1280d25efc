-- Means, no part of what is promised: where the writing loop stands, and the rows of a record as the code works them out.
use Rattle.std.specs.Prelude.{ℕ, ◌+◌, ◌-◌, ◌*◌, ◌≤◌, ◌<◌, ◌≡◌, Bool, true, cond, List, [], ◌∷◌, eqb, length}
use Rattle.records.specs.Record.{tree_size}
use Rattle.mesh.specs.Mesh.{mesh_header}
use Rattle.brick.specs.Calls.{extents_ok}

-- tree k stands at x, y, z
pub record Stands (a b k x y z : ℕ) : Type 0 where
  pub first : x < a
  pub second : y < b
  pub number : k ≡ x + a * (y + b * z)

-- tree k is at coordinate x of an axis with that extent and stride: so far the numbers of two next trees on it are apart
pub record OnAxis (k x extent stride : ℕ) : Type 0 where
  pub inside : x < extent
  pub before : stride * x ≤ k
  pub fits : k + extent * stride < 4294967296

-- the row of a low face of tree k, at coordinate x of an axis with that extent and stride
unfoldable pub low_row : ℕ → ℕ → ℕ → ℕ → Bool → ℕ → List ℕ
low_row k x extent stride periodic face =
    cond (eqb x 0) (cond periodic ((k + (extent - 1) * stride) ∷ (face + 1) ∷ 0 ∷ []) (k ∷ face ∷ 0 ∷ [])) ((k - stride) ∷ (face + 1) ∷ 0 ∷ [])

-- and of a high face
unfoldable pub high_row : ℕ → ℕ → ℕ → ℕ → Bool → ℕ → List ℕ
high_row k x extent stride periodic face =
    cond (eqb (x + 1) extent) (cond periodic ((k - (extent - 1) * stride) ∷ (face - 1) ∷ 0 ∷ []) (k ∷ face ∷ 0 ∷ [])) ((k + stride) ∷ (face - 1) ∷ 0 ∷ [])

-- what writing a brick needs
pub record Room (a b c : ℕ) (out : List ℕ) : Type 0 where
  pub extents : extents_ok a b c ≡ true
  pub room : mesh_header + tree_size * (a * b * c) ≤ length out
