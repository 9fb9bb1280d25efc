-- Small bricks, computed on the definitions.
use Prim.Native.Nat.{ℕ}
use mathlib.Core.Path.{◌≡◌, refl}
use mathlib.Core.Bool.{true, false}
use Rattle.mesh_build.specs.Build.{NewLink}
use Rattle.brick.specs.Brick.{place_of, tree_at, axis_of, is_high, opposite, step_across, link_by_step, brick_link}

-- face g of tree n, with orientation 0
abbrev to : ℕ → ℕ → NewLink
to n g = record { neighbour = n; face = g; orientation = 0 }

-- on a periodic axis of extent 1 a tree is its own neighbour across two faces, and no boundary; on one of extent 2 the two trees meet twice
pub short_axes : (brick_link 1 1 1 true false true 0 0 ≡ to 0 1) × (brick_link 1 1 1 true false true 0 1 ≡ to 0 0) × (brick_link 1 1 1 true false true 0 2 ≡ to 0 2) × (brick_link 1 1 1 true false true 0 4 ≡ to 0 5)
    × (brick_link 1 2 1 false true false 0 2 ≡ to 1 3) × (brick_link 1 2 1 false true false 0 3 ≡ to 1 2) × (brick_link 1 2 1 false true false 1 3 ≡ to 0 2)
unfolding place_of tree_at axis_of is_high opposite step_across link_by_step brick_link
short_axes = (refl, refl, refl, refl, refl, refl, refl)

-- tree 1 of 3 × 2 × 2 trees, periodic on the second axis, is the middle one of the lowest row; tree 11 is the last
pub a_brick : (brick_link 3 2 2 false true false 1 0 ≡ to 0 1) × (brick_link 3 2 2 false true false 1 1 ≡ to 2 0) × (brick_link 3 2 2 false true false 1 2 ≡ to 4 3) × (brick_link 3 2 2 false true false 1 3 ≡ to 4 2)
    × (brick_link 3 2 2 false true false 1 4 ≡ to 1 4) × (brick_link 3 2 2 false true false 1 5 ≡ to 7 4) × (brick_link 3 2 2 false true false 11 1 ≡ to 11 1) × (brick_link 3 2 2 false true false 11 4 ≡ to 5 5)
unfolding place_of tree_at axis_of is_high opposite step_across link_by_step brick_link
a_brick = (refl, refl, refl, refl, refl, refl, refl, refl)
