-- A brick of a × b × c hexahedra, each axis periodic or not.
use Rattle.std.specs.Prelude.{ℕ, ◌+◌, ◌-◌, ◌*◌, ◌/◌, ◌%◌, Bool, false, cond, List, [], ◌∷◌, eqb, get_or, set}
use Rattle.mesh_build.specs.Build.{NewLink, built_mesh}

-- the shape of a hexahedron
abbrev pub hexahedron : ℕ
hexahedron = 2

-- tree numbers run along the first axis fastest: the coordinates of tree k, and the number of the tree at coordinates
unfoldable pub place_of : ℕ → ℕ → ℕ → List ℕ
place_of a b k = k % a ∷ k / a % b ∷ k / a / b ∷ []

unfoldable pub tree_at : ℕ → ℕ → List ℕ → ℕ
tree_at a b place = get_or place 0 0 + a * (get_or place 1 0 + b * get_or place 2 0)

-- faces 0 and 1 are low and high on the first axis, 2 and 3 on the second, 4 and 5 on the third
unfoldable pub axis_of : ℕ → ℕ
axis_of f = f / 2

unfoldable pub is_high : ℕ → Bool
is_high f = eqb (f % 2) 1

-- the other face on the axis
unfoldable pub opposite : ℕ → ℕ
opposite f = cond (is_high f) (f - 1) (f + 1)

-- what stands across a face: the boundary, or the tree with that coordinate on the face's axis
pub data Step : Type 0 where
  boundary : Step
  tree : ℕ → Step

-- across the low or high face at coordinate x of an axis: the next tree; at an end, the boundary or, on a periodic axis, the tree at the other end
unfoldable pub step_across : Bool → ℕ → Bool → ℕ → Step
step_across high extent periodic x =
    cond (cond high (eqb (x + 1) extent) (eqb x 0)) (cond periodic (tree (cond high 0 (extent - 1))) boundary) (tree (cond high (x + 1) (x - 1)))

-- the link of face f of tree k: the tree's own face at the boundary, else the opposite face; orientation 0 throughout
unfoldable pub link_by_step : ℕ → ℕ → ℕ → ℕ → Step → NewLink
link_by_step a b k f boundary = record { neighbour = k; face = f; orientation = 0 }
link_by_step a b k f (tree y) = record { neighbour = tree_at a b (set (place_of a b k) (axis_of f) y); face = opposite f; orientation = 0 }

-- the extents, and whether each axis is periodic
module _ (a b c : ℕ) (p q r : Bool) where
  -- face f of tree k
  unfoldable pub brick_link : ℕ → ℕ → NewLink
  brick_link k f =
      link_by_step a b k f (step_across (is_high f) (get_or (a ∷ b ∷ c ∷ []) (axis_of f) 0) (get_or (p ∷ q ∷ r ∷ []) (axis_of f) false) (get_or (place_of a b k) (axis_of f) 0))

  -- the whole mesh
  unfoldable pub brick_mesh : List ℕ
  brick_mesh = built_mesh hexahedron brick_link (a * b * c)
