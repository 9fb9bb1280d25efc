-- The links of a brick make a mesh, for all extents: one argument over the axis of a face.
use Prim.Native.Nat.{ℕ, zero, suc, ◌+◌, ◌*◌, ◌/◌, ◌%◌, ◌≤◌, ◌<◌}
use native.Mathlib.Omega.{arith}
use native.Mathlib.Nat.{mul-le-mul, mul-pos}
use mathlib.Core.Path.{◌≡◌, refl, sym, ap, ◌∙◌}
use mathlib.Core.Bool.{Bool, true, false, not, ◌&&◌}
use mathlib.Core.List.{[], ◌∷◌}
use lib.Dec.{leb, lit≤}
use lib.ListN.{length, get_or, set}
use borrow.Author.Tests.{leb-true, le-leb, lt-ltb}
use Rattle.encoding.proofs.Below.{and_fst, and_snd, and_intro}
use Rattle.offsets.specs.Limits.{tree_count_ok}
use Rattle.records.specs.Shape.{face_count, corners, corners_of}
use Rattle.mesh_build.specs.Build.{LinksFit}
use Rattle.mesh_build.proofs.Building.{built_sound, built_length, built_neighbour, built_face, built_orientation}
use Rattle.brick.specs.Brick.{hexahedron, place_of, tree_at, axis_of, is_high, opposite, Step, step_across, link_by_step, brick_link, brick_mesh}
use Rattle.brick.specs.Brick.Step.{boundary, tree}
use Rattle.brick.specs.Calls.{extent_ok, extents_ok}
use Rattle.brick.specs.Theorems.{BrickSound, BrickLinks}
use Rattle.brick.proofs.Axes.{step_back, tree_place_lem, place_tree, tree_below_lem, place_inside, opposite_face}

-- ---- extents

extent_within : (e : ℕ) → extent_ok e ≡ true → (1 ≤ e) × (e ≤ 64)
unfolding extent_ok
extent_within e h = (leb-true 1 e (and_fst (leb 1 e) (leb e 64) h), leb-true e 64 (and_snd (leb 1 e) (leb e 64) h))

-- the three extents and how many trees there are at most
pub record Within (a b c : ℕ) : Type 0 where
  pub first : (1 ≤ a) × (a ≤ 64)
  pub second : (1 ≤ b) × (b ≤ 64)
  pub third : (1 ≤ c) × (c ≤ 64)
  pub layer : a * b ≤ 4096
  pub some : 1 ≤ a * b * c
  pub few : a * b * c ≤ 262144

pub within : (a b c : ℕ) → extents_ok a b c ≡ true → Within a b c
unfolding extents_ok
within a b c h =
    let x = extent_within a (and_fst (extent_ok a) (extent_ok b) (and_fst (extent_ok a && extent_ok b) (extent_ok c) h)) in
    let y = extent_within b (and_snd (extent_ok a) (extent_ok b) (and_fst (extent_ok a && extent_ok b) (extent_ok c) h)) in
    let z = extent_within c (and_snd (extent_ok a && extent_ok b) (extent_ok c) h) in
    record {
      first = x;
      second = y;
      third = z;
      layer = mul-le-mul x.1 y.1;
      some = mul-pos (mul-pos x.0 y.0) z.0;
      few = mul-le-mul (mul-le-mul x.1 y.1) z.1;
    }

-- ---- the place of a tree with one coordinate changed

module _ (a b c : ℕ) (x y z : ℕ) (hx : x < a) (hy : y < b) (hz : z < c) where
  -- v stands for coordinate i
  moved-place : (i v : ℕ) → i < 3 → v < get_or (a ∷ b ∷ c ∷ []) i 0 → place_of a b (tree_at a b (set (x ∷ y ∷ z ∷ []) i v)) ≡ set (x ∷ y ∷ z ∷ []) i v
  moved-place zero v h g = place_tree a b v y z g hy
  moved-place (suc zero) v h g = place_tree a b x v z hx g
  moved-place (suc (suc zero)) v h g = place_tree a b x y v hx hy
  moved-place (suc (suc (suc i))) v h g = absurd (omega arith)

  moved-below : (i v : ℕ) → i < 3 → v < get_or (a ∷ b ∷ c ∷ []) i 0 → tree_at a b (set (x ∷ y ∷ z ∷ []) i v) < a * b * c
  moved-below zero v h g = tree_below_lem a b c v y z g hy hz
  moved-below (suc zero) v h g = tree_below_lem a b c x v z hx g hz
  moved-below (suc (suc zero)) v h g = tree_below_lem a b c x y v hx hy g
  moved-below (suc (suc (suc i))) v h g = absurd (omega arith)

  moved_at : (i v : ℕ) → i < 3 → get_or (set (x ∷ y ∷ z ∷ []) i v) i 0 ≡ v
  moved_at zero v h = refl
  moved_at (suc zero) v h = refl
  moved_at (suc (suc zero)) v h = refl
  moved_at (suc (suc (suc i))) v h = absurd (omega arith)

  -- and back
  moved_back : (i v : ℕ) → i < 3 → set (set (x ∷ y ∷ z ∷ []) i v) i (get_or (x ∷ y ∷ z ∷ []) i 0) ≡ (x ∷ y ∷ z ∷ [])
  moved_back zero v h = refl
  moved_back (suc zero) v h = refl
  moved_back (suc (suc zero)) v h = refl
  moved_back (suc (suc (suc i))) v h = absurd (omega arith)

  coordinate-inside : (i : ℕ) → i < 3 → get_or (x ∷ y ∷ z ∷ []) i 0 < get_or (a ∷ b ∷ c ∷ []) i 0
  coordinate-inside zero h = hx
  coordinate-inside (suc zero) h = hy
  coordinate-inside (suc (suc zero)) h = hz
  coordinate-inside (suc (suc (suc i))) h = absurd (omega arith)

-- ---- links

step_either : {C : Type 0} (s : Step) → (s ≡ boundary → C) → ((v : ℕ) → s ≡ tree v → C) → C
step_either boundary g h = g refl
step_either (tree v) g h = h v refl

hexahedron_corners : (f : ℕ) → f < 6 → corners hexahedron f ≡ 4
unfolding corners corners_of face_count
hexahedron_corners f h = rw (lt-ltb f 6 h)

module _ (a b c : ℕ) (p q r : Bool) where
  -- what stands across face f of tree k
  unfoldable face_step : ℕ → ℕ → Step
  face_step k f = step_across (is_high f) (get_or (a ∷ b ∷ c ∷ []) (axis_of f) 0) (get_or (p ∷ q ∷ r ∷ []) (axis_of f) false) (get_or (place_of a b k) (axis_of f) 0)

  link-boundary : (k f : ℕ) → face_step k f ≡ boundary → brick_link a b c p q r k f ≡ record { neighbour = k; face = f; orientation = 0 }
  unfolding brick_link face_step link_by_step
  link-boundary k f e = rw e

  link-tree : (k f v : ℕ) → face_step k f ≡ tree v
      → brick_link a b c p q r k f ≡ record { neighbour = tree_at a b (set (place_of a b k) (axis_of f) v); face = opposite f; orientation = 0 }
  unfolding brick_link face_step link_by_step
  link-tree k f v e = rw e

  module _ (ok : Within a b c) (k : ℕ) (tree< : k < a * b * c) (f : ℕ) (six : f < 6) where
    inside : (k % a < a) × (k / a % b < b) × (k / a / b < c)
    inside = place_inside a b c k ok.first.0 ok.second.0 tree<

    axis : axis_of f < 3
    axis = (opposite_face f six).4

    -- the coordinate across is within its extent, and the opposite face there leads back
    back : (v : ℕ) → face_step k f ≡ tree v
        → (v < get_or (a ∷ b ∷ c ∷ []) (axis_of f) 0)
        × (step_across (not (is_high f)) (get_or (a ∷ b ∷ c ∷ []) (axis_of f) 0) (get_or (p ∷ q ∷ r ∷ []) (axis_of f) false) v ≡ tree (get_or (place_of a b k) (axis_of f) 0))
    unfolding face_step place_of
    back v e = step_back (is_high f) (get_or (a ∷ b ∷ c ∷ []) (axis_of f) 0) _ (get_or (place_of a b k) (axis_of f) 0) v (coordinate-inside a b c (k % a) (k / a % b) (k / a / b) inside.0 inside.1 inside.2 (axis_of f) axis) e

    brick-below : (brick_link a b c p q r k f).neighbour < a * b * c
    unfolding place_of
    brick-below =
        step_either (face_step k f) (λ e. rw (link-boundary k f e) tree<)
        (λ v e. rw (link-tree k f v e) (moved-below a b c (k % a) (k / a % b) (k / a / b) inside.0 inside.1 inside.2 (axis_of f) v axis (back v e).0))

    brick-face : (brick_link a b c p q r k f).face < 6
    brick-face = step_either (face_step k f) (λ e. rw (link-boundary k f e) six) (λ v e. rw (link-tree k f v e) (opposite_face f six).3)

    pub brick_orientation : (brick_link a b c p q r k f).orientation ≡ 0
    brick_orientation = step_either (face_step k f) (λ e. rw (link-boundary k f e)) (λ v e. rw (link-tree k f v e))

    brick-answers : brick_link a b c p q r (brick_link a b c p q r k f).neighbour (brick_link a b c p q r k f).face ≡ record { neighbour = k; face = f; orientation = 0 }
    unfolding place_of face_step
    brick-answers =
        step_either (face_step k f) (λ e. let l = link-boundary k f e in rw l l)
        (λ v e.
        let i : ℕ = axis_of f in
        let g : ℕ = opposite f in
        let n : ℕ = tree_at a b (set (place_of a b k) i v) in
        let o = opposite_face f six in
        let place : place_of a b n ≡ set (place_of a b k) i v = moved-place a b c (k % a) (k / a % b) (k / a / b) inside.0 inside.1 inside.2 i v axis (back v e).0 in
        let at : get_or (place_of a b n) i 0 ≡ v = ap (λ s. get_or s i 0) place ∙ moved_at a b c (k % a) (k / a % b) (k / a / b) inside.0 inside.1 inside.2 i v axis in
        let s : face_step n g ≡ tree (get_or (place_of a b k) i 0) = rw (o.0, o.1, at) (back v e).1 in
        let own : set (place_of a b n) i (get_or (place_of a b k) i 0) ≡ place_of a b k = rw place (moved_back a b c (k % a) (k / a % b) (k / a / b) inside.0 inside.1 inside.2 i v axis) in
        let l : brick_link a b c p q r n g ≡ record { neighbour = k; face = f; orientation = 0 } =
        link-tree n g (get_or (place_of a b k) i 0) s ∙ rw (o.0, o.2, own, tree_place_lem a b k) in
        rw (link-tree k f v e) l)

-- ---- the mesh

module _ (a b c : ℕ) (p q r : Bool) (ok : Within a b c) where
  pub brick_fits : LinksFit hexahedron (brick_link a b c p q r) (a * b * c)
  unfolding face_count tree_count_ok
  brick_fits =
      record {
        shape_there = lit≤ tt;
        trees = and_intro (leb 1 (a * b * c)) (leb (a * b * c) 1048576) (le-leb 1 (a * b * c) ok.some) (le-leb (a * b * c) 1048576 (omega (arith, ok.few)));
        below = λ k f t s. brick-below a b c p q r ok k t f s;
        turned = λ k f t s. rw (brick_orientation a b c p q r ok k t f s, hexahedron_corners f s) (lit≤ tt);
        alike = λ k f t s. hexahedron_corners f s ∙ sym (hexahedron_corners (brick_link a b c p q r k f).face (brick-face a b c p q r ok k t f s));
        answers = λ k f t s. rw (brick_orientation a b c p q r ok k t f s) (brick-answers a b c p q r ok k t f s);
        boundary = λ k f t s _ _. brick_orientation a b c p q r ok k t f s;
      }

  pub brick_length : length (brick_mesh a b c p q r) ≡ 8 + 64 * (a * b * c)
  unfolding brick_mesh
  brick_length = built_length hexahedron (brick_link a b c p q r) (a * b * c)

pub brick_sound : BrickSound
unfolding brick_mesh
brick_sound a b c p q r h = built_sound hexahedron (brick_link a b c p q r) (a * b * c) (brick_fits a b c p q r (within a b c h))

pub brick_links : BrickLinks
unfolding brick_mesh face_count
brick_links a b c p q r h k f t s =
    let ok = within a b c h in
    let fit = brick_fits a b c p q r ok in (
      built_neighbour hexahedron (brick_link a b c p q r) (a * b * c) fit k t f s,
      built_face hexahedron (brick_link a b c p q r) (a * b * c) fit k t f s,
      built_orientation hexahedron (brick_link a b c p q r) (a * b * c) fit k t f s ∙ brick_orientation a b c p q r ok k t f s,
    )
