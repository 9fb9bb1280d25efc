-- A link may be read by the dimension as soon as the one record has it: corners that fit tell that the other has it too. So the fast check of a tree says of it alone what the definition says.
use Prim.Native.Nat.{ℕ, ◌/◌, ◌%◌, ◌<◌}
use native.Mathlib.Omega.{arith}
use mathlib.Core.Path.{◌≡◌, sym, ap, ◌∙◌}
use mathlib.Core.Bool.{Bool, true, false, cond, ◌&&◌}
use mathlib.Core.List.{List}
use lib.Dec.{eqb, leb, ltb, lit<}
use borrow.Author.Tests.{leb-false, eqb-true, eqb-false, ne_eqb}
use Rattle.encoding.proofs.Below.{tests, either, and_fst, and_snd, and_intro, all_same}
use Rattle.records.specs.Shape.{shape_ok, dimension_of, face_count, faces_in, corners_of, corners}
use Rattle.records.specs.Record.{number_of, shape_of, neighbour_of, code_of, face_of, orientation_of, in_form}
use Rattle.records.proofs.Shapes.{count_none, dimension_none}
use Rattle.mesh.specs.Link.{orientation_ok, same_corners, link_ok}
use Rattle.mesh.specs.Mesh.{face_sound, tree_sound}
use Rattle.mesh.specs.Means.{corners_fit, corners_by_dimension, link_between, link_by_dimension, face_by_dimension, tree_by_dimension}
use Rattle.mesh.proofs.ByDimension.{Fits, fits_form, link_same}

-- ---- corners

above : (b : Bool) {x y : ℕ} → 2 < x → 2 < y → 2 < cond b x y
above true h l = h
above false h l = l

-- a face of a solid has more than two
solid_corners : (s f : ℕ) → leb s 1 ≡ false → 2 < corners_of s f
unfolding corners_of
solid_corners s f e =
    rw e (above (eqb s 2) (lit< tt) (above (eqb s 3) (lit< tt) (above (eqb s 4) (above (leb f 2) (lit< tt) (lit< tt)) (above (leb f 3) (lit< tt) (lit< tt)))))

-- no such face, two corners in dimension 2, or more in dimension 3
corner_cases : {C : Type 0} (s f : ℕ) → (corners s f ≡ 0 → C) → (dimension_of s ≡ 2 → corners s f ≡ 2 → C) → (dimension_of s ≡ 3 → 2 < corners s f → C) → C
unfolding corners dimension_of corners_of
corner_cases s f none flat solid =
    either (ltb f (face_count s))
    (λ p. either (leb s 1)
    (λ q. flat (rw q) (rw (p, q)))
    (λ q. either (leb s 5)
    (λ t. solid (rw (q, t)) (rw p (solid_corners s f q)))
    (λ t. absurd (omega (tests, count_none s (leb-false s 5 t))))))
    (λ p. none (rw p))

-- faces of shapes of two dimensions never have as many
module _ (r s : ℕ) (differ : eqb (dimension_of s) (dimension_of r) ≡ false) where
  corners-differ : (f g : ℕ) → 0 < corners r f → corners r f ≡ corners s g → ⊥
  corners-differ f g h e =
      corner_cases r f
      (λ a. omega arith)
      (λ d a. corner_cases s g (λ b. omega arith) (λ c b. eqb-false _ _ differ (c ∙ sym d)) (λ c b. omega arith))
      (λ d a. corner_cases s g (λ b. omega arith) (λ c b. omega arith) (λ c b. eqb-false _ _ differ (c ∙ sym d)))

  unfit : (o f g : ℕ) → (ltb o (corners r f) && eqb (corners r f) (corners s g)) ≡ false
  unfit o f g =
      either (ltb o (corners r f))
      (λ p. rw (p, ne_eqb (corners r f) (corners s g) (corners-differ f g (omega tests))))
      (λ p. rw p)

-- ---- links

-- a shape has a dimension
dimension_some : (x : ℕ) → leb x 5 ≡ true → dimension_of x ≡ 0 → ⊥
unfolding dimension_of
dimension_some x h e = either (leb x 1) (λ p. absurd (omega (arith, rw p at e))) (λ p. absurd (omega (arith, rw (p, h) at e)))

module _ (D : ℕ) (r : List ℕ) (fits : Fits D r) where
  -- what has a shape's dimension is a shape
  fits-other : (s : List ℕ) → dimension_of (shape_of s) ≡ D → Fits D s
  unfolding shape_ok
  fits-other s e =
      (either (leb (shape_of s) 5) (λ p. p) (λ p. absurd (dimension_some (shape_of r) fits.0 (fits.1 ∙ sym e ∙ dimension_none (shape_of s) (leb-false (shape_of s) 5 p)))), e)

  pub link_any : (s : List ℕ) (back f : ℕ) → f < face_count (shape_of r) → link_by_dimension D back r f s ≡ link_between back r f s
  unfolding link_by_dimension corners_by_dimension corners_fit link_between orientation_ok same_corners
  link_any s back f h =
      either (eqb (dimension_of (shape_of s)) (dimension_of (shape_of r)))
      (λ p. link_same D r s fits (fits-other s (eqb-true _ _ p ∙ fits.1)) back f h)
      (λ p. rw (unfit (shape_of r) (shape_of s) p (code_of r f / faces_in D) f (code_of r f % faces_in D), unfit (shape_of r) (shape_of s) p (orientation_of r f) f (face_of r f)))

-- ---- a tree of a whole mesh

module _ (core : ℕ → List ℕ) (d K k : ℕ) where
  abbrev alone : Bool
  alone = in_form k (core k) && eqb (number_of (core k)) k && eqb (dimension_of (shape_of (core k))) d

  alone_fits : alone ≡ true → Fits d (core k)
  alone_fits e =
      let a : Bool = in_form k (core k) in
      let b : Bool = eqb (number_of (core k)) k in
      let s : Bool = eqb (dimension_of (shape_of (core k))) d in
      fits_form d k (core k) (and_intro a s (and_fst a b (and_fst (a && b) s e)) (and_snd (a && b) s e))

  face-same : Fits d (core k) → (f : ℕ) → f < face_count (shape_of (core k)) → face_by_dimension core d K k f ≡ face_sound core K k f
  unfolding face_by_dimension face_sound link_ok link_between
  face-same fits f h =
      ap (λ (b : Bool). ltb (neighbour_of (core k) f) K && b) (link_any d (core k) fits (core (neighbour_of (core k) f)) k f h)

  pub tree_by_dimension_lem : tree_by_dimension core d K k ≡ tree_sound core d K k
  unfolding tree_by_dimension tree_sound
  tree_by_dimension_lem =
      either alone
      (λ e. ap (λ (b : Bool). alone && b) (all_same (face_count (shape_of (core k))) (face_by_dimension core d K k) (face_sound core K k) (face-same (alone_fits e))))
      (λ e. rw e)
