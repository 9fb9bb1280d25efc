-- Laws of links and of sound meshes.
use Prim.Native.Nat.{ℕ, ◌+◌, ◌*◌, ◌≤◌, ◌<◌}
use native.Mathlib.Omega.{arith}
use mathlib.Core.Path.{◌≡◌, sym, ap, ◌∙◌}
use mathlib.Core.Bool.{Bool, true, ◌&&◌, ◌||◌}
use mathlib.Core.List.{List}
use mathlib.Core.Logic.{◌⊎◌, inl, inr}
use lib.Dec.{ltb, eqb}
use lib.ListN.{length}
use borrow.Author.Tests.{ltb-true, eqb-true, eq-eqb}
use Rattle.encoding.specs.Below.{all_below}
use Rattle.encoding.specs.Numbers.{u32_at}
use Rattle.encoding.specs.Pieces.{piece}
use Rattle.encoding.proofs.Below.{tests, either, and_fst, and_snd, iff_eq, all_at, all_same, any_at, any_intro}
use Rattle.encoding.proofs.Pieces.{piece_length}
use Rattle.offsets.specs.Limits.{tree_count_ok}
use Rattle.records.specs.Shape.{dimension_of, face_count, corners}
use Rattle.records.specs.Record.{core_size, tree_size, number_of, shape_of, neighbour_of, face_of, orientation_of, in_form}
use Rattle.records.proofs.Shapes.{corners_none}
use Rattle.records.proofs.Forms.{at_piece}
use Rattle.mesh.specs.Link.{orientation_ok, same_corners, answered, link_ok}
use Rattle.mesh.specs.Mesh.{mesh_header, mesh_dimension, mesh_trees, dimension_ok, mesh_core, face_sound, tree_sound, header_sound, mesh_sound, face_neighbour}

-- where three pass, each does
and_three : (a b c : Bool) → (a && b && c) ≡ true → (a ≡ true) × (b ≡ true) × (c ≡ true)
and_three a b c e = (and_fst a b (and_fst (a && b) c e), and_snd a b (and_fst (a && b) c e), and_snd (a && b) c e)

-- ---- links

-- a face with corners is one that the shape has
pub corners_there : (s f : ℕ) → 0 < corners s f → f < face_count s
corners_there s f h = either (ltb f (face_count s)) (ltb-true f (face_count s)) (λ e. absurd (omega (tests, corners_none s f (omega tests))))

-- the neighbour's link leads back to k and f, with the same orientation
pub answered_back : (k : ℕ) (r : List ℕ) (f : ℕ) (s : List ℕ) → answered k r f s ≡ true
    → (neighbour_of s (face_of r f) ≡ k) × (face_of s (face_of r f) ≡ f) × (orientation_of s (face_of r f) ≡ orientation_of r f)
unfolding answered
answered_back k r f s e =
    let t = and_three (eqb (neighbour_of s (face_of r f)) k) (eqb (face_of s (face_of r f)) f) (eqb (orientation_of s (face_of r f)) (orientation_of r f)) e in
    (eqb-true _ _ t.0, eqb-true _ _ t.1, eqb-true _ _ t.2)

-- of a link that obeys the rule
module _ (core : ℕ → List ℕ) (k f : ℕ) (ok : link_ok core k f ≡ true) where
  link-parts : (orientation_ok (core k) f ≡ true) × (same_corners (core k) f (core (neighbour_of (core k) f)) ≡ true) × (answered k (core k) f (core (neighbour_of (core k) f)) ≡ true)
  unfolding link_ok
  link-parts = and_three (orientation_ok (core k) f) (same_corners (core k) f (core (neighbour_of (core k) f))) (answered k (core k) f (core (neighbour_of (core k) f))) ok

  pub link_orientation : orientation_of (core k) f < corners (shape_of (core k)) f
  unfolding orientation_ok
  link_orientation = ltb-true _ _ link-parts.0

  pub link_corners : corners (shape_of (core k)) f ≡ corners (shape_of (core (neighbour_of (core k) f))) (face_of (core k) f)
  unfolding same_corners
  link_corners = eqb-true _ _ link-parts.1

  -- the neighbour's face is one that its shape has
  pub link_there : face_of (core k) f < face_count (shape_of (core (neighbour_of (core k) f)))
  link_there = corners_there _ _ (omega (arith, link_orientation, link_corners))

  -- the neighbour's link leads back, with the same orientation
  pub link_answered : (neighbour_of (core (neighbour_of (core k) f)) (face_of (core k) f) ≡ k)
      × (face_of (core (neighbour_of (core k) f)) (face_of (core k) f) ≡ f)
      × (orientation_of (core (neighbour_of (core k) f)) (face_of (core k) f) ≡ orientation_of (core k) f)
  link_answered = answered_back k (core k) f (core (neighbour_of (core k) f)) link-parts.2

-- ---- sound meshes

pub header_parts : (m : List ℕ) → header_sound m ≡ true → (dimension_ok (mesh_dimension m) ≡ true) × (tree_count_ok (mesh_trees m) ≡ true) × (length m ≡ mesh_header + tree_size * mesh_trees m)
unfolding header_sound
header_parts m e =
    let t = and_three (dimension_ok (mesh_dimension m)) (tree_count_ok (mesh_trees m)) (eqb (length m) (mesh_header + tree_size * mesh_trees m)) e in
    (t.0, t.1, eqb-true _ _ t.2)

module _ (m : List ℕ) (sound : mesh_sound m ≡ true) where
  pub sound_header : header_sound m ≡ true
  unfolding mesh_sound
  sound_header = and_fst (header_sound m) _ sound

  pub sound_dimension : (mesh_dimension m ≡ 2) ⊎ (mesh_dimension m ≡ 3)
  unfolding dimension_ok
  sound_dimension =
      let d = mesh_dimension m in
      let e : (eqb d 2 || eqb d 3) ≡ true = (header_parts m sound_header).0 in
      either (eqb d 2) (λ p. inl (eqb-true d 2 p)) (λ p. inr (eqb-true d 3 (rw p at e)))

  pub sound_length : length m ≡ mesh_header + tree_size * mesh_trees m
  sound_length = (header_parts m sound_header).2

  module _ (k : ℕ) (tree : k < mesh_trees m) where
    pub sound_tree : tree_sound (mesh_core m) (mesh_dimension m) (mesh_trees m) k ≡ true
    unfolding mesh_sound
    sound_tree = all_at (mesh_trees m) _ (and_snd (header_sound m) _ sound) k tree

    -- the record is in the buffer
    pub sound_fits : mesh_header + tree_size * k + tree_size ≤ length m
    sound_fits = omega (arith, sound_length)

    pub sound_core : length (mesh_core m k) ≡ core_size
    unfolding mesh_core
    sound_core = piece_length m (mesh_header + tree_size * k) core_size (omega (arith, sound_fits))

    sound-parts : ((in_form k (mesh_core m k) && eqb (number_of (mesh_core m k)) k) ≡ true)
        × (eqb (dimension_of (shape_of (mesh_core m k))) (mesh_dimension m) ≡ true)
        × (all_below (face_count (shape_of (mesh_core m k))) (face_sound (mesh_core m) (mesh_trees m) k) ≡ true)
    unfolding tree_sound
    sound-parts =
        and_three (in_form k (mesh_core m k) && eqb (number_of (mesh_core m k)) k) (eqb (dimension_of (shape_of (mesh_core m k))) (mesh_dimension m)) (all_below (face_count (shape_of (mesh_core m k))) (face_sound (mesh_core m) (mesh_trees m) k)) sound_tree

    pub sound_form : in_form k (mesh_core m k) ≡ true
    sound_form = and_fst (in_form k (mesh_core m k)) _ sound-parts.0

    pub sound_number : number_of (mesh_core m k) ≡ k
    sound_number = eqb-true _ _ (and_snd (in_form k (mesh_core m k)) _ sound-parts.0)

    pub sound_shape : dimension_of (shape_of (mesh_core m k)) ≡ mesh_dimension m
    sound_shape = eqb-true _ _ sound-parts.1

    module _ (f : ℕ) (face : f < face_count (shape_of (mesh_core m k))) where
      sound-face : face_sound (mesh_core m) (mesh_trees m) k f ≡ true
      sound-face = all_at (face_count (shape_of (mesh_core m k))) _ sound-parts.2 f face

      pub neighbour_below : neighbour_of (mesh_core m k) f < mesh_trees m
      unfolding face_sound
      neighbour_below = ltb-true _ _ (and_fst (ltb (neighbour_of (mesh_core m k) f) (mesh_trees m)) _ sound-face)

      pub sound_link : link_ok (mesh_core m) k f ≡ true
      unfolding face_sound
      sound_link = and_snd (ltb (neighbour_of (mesh_core m k) f) (mesh_trees m)) _ sound-face

      -- the neighbour's face is one that its shape has
      pub face_there : face_of (mesh_core m k) f < face_count (shape_of (mesh_core m (neighbour_of (mesh_core m k) f)))
      face_there = link_there (mesh_core m) k f sound_link

      -- links are symmetric
      pub link_back : (neighbour_of (mesh_core m (neighbour_of (mesh_core m k) f)) (face_of (mesh_core m k) f) ≡ k)
          × (face_of (mesh_core m (neighbour_of (mesh_core m k) f)) (face_of (mesh_core m k) f) ≡ f)
          × (orientation_of (mesh_core m (neighbour_of (mesh_core m k) f)) (face_of (mesh_core m k) f) ≡ orientation_of (mesh_core m k) f)
      link_back = link_answered (mesh_core m) k f sound_link

  neighbour-to : (k n : ℕ) → k < mesh_trees m → face_neighbour (mesh_core m) k n ≡ true → face_neighbour (mesh_core m) n k ≡ true
  unfolding face_neighbour
  neighbour-to k n h e =
      let a = any_at (face_count (shape_of (mesh_core m k))) (λ f. eqb (neighbour_of (mesh_core m k) f) n) e in
      let q : neighbour_of (mesh_core m k) a.0 ≡ n = eqb-true _ _ a.2 in
      let there : face_of (mesh_core m k) a.0 < face_count (shape_of (mesh_core m n)) = rw q at (face_there k h a.0 a.1) in
      let back : neighbour_of (mesh_core m n) (face_of (mesh_core m k) a.0) ≡ k = rw q at (link_back k h a.0 a.1).0 in
      any_intro (face_count (shape_of (mesh_core m n))) (λ f. eqb (neighbour_of (mesh_core m n) f) k) (face_of (mesh_core m k) a.0) there (eq-eqb _ _ back)

  -- each of two face neighbours is the other's
  pub neighbours_both : (k n : ℕ) → k < mesh_trees m → n < mesh_trees m → face_neighbour (mesh_core m) k n ≡ face_neighbour (mesh_core m) n k
  neighbours_both k n h l = iff_eq _ _ (neighbour-to k n h) (neighbour-to n k l)

-- ---- soundness looks at the length, the header and the cores alone

module _ (a b : ℕ → List ℕ) (K : ℕ) (same : (k : ℕ) → k < K → a k ≡ b k) (k : ℕ) (tree : k < K) where
  face-cores : (f : ℕ) → face_sound a K k f ≡ face_sound b K k f
  unfolding face_sound link_ok
  face-cores f = rw (same k tree) (either (ltb (neighbour_of (b k) f) K) (λ e. rw (same (neighbour_of (b k) f) (ltb-true _ _ e))) (λ e. rw e))

  tree-cores : (d : ℕ) → tree_sound a d K k ≡ tree_sound b d K k
  unfolding tree_sound
  tree-cores d = rw (same k tree, all_same (face_count (shape_of (b k))) (face_sound a K k) (face_sound b K k) (λ f p. face-cores f))

pub sound_cores : (a b : List ℕ) → length a ≡ length b → piece a 0 mesh_header ≡ piece b 0 mesh_header → ((k : ℕ) → k < mesh_trees a → mesh_core a k ≡ mesh_core b k) → mesh_sound a ≡ mesh_sound b
unfolding mesh_sound header_sound mesh_dimension mesh_trees
sound_cores a b l e same =
    let number : (off : ℕ) → off + 4 ≤ mesh_header → u32_at a (0 + off) ≡ u32_at b (0 + off) =
    λ off h. sym (at_piece 4 a 0 mesh_header off h) ∙ ap (λ p. u32_at p off) e ∙ at_piece 4 b 0 mesh_header off h in
    let d : u32_at a 0 ≡ u32_at b 0 = number 0 (omega arith) in
    let t : u32_at a 4 ≡ u32_at b 4 = number 4 (omega arith) in
    let K : ℕ = u32_at b 4 in
    let s : (k : ℕ) → k < K → mesh_core a k ≡ mesh_core b k = rw t at same in
    rw (l, d, t, all_same K (tree_sound (mesh_core a) (u32_at b 0) K) (tree_sound (mesh_core b) (u32_at b 0) K) (λ k p. tree-cores (mesh_core a) (mesh_core b) K s k p (u32_at b 0)))
