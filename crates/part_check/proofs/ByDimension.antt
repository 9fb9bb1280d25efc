-- Where all records have the part's dimension, links may be read by that dimension.
use Prim.Native.Nat.{ℕ, ◌+◌, ◌-◌, ◌<◌}
use native.Mathlib.Omega.{arith}
use mathlib.Core.Path.{◌≡◌, ap}
use mathlib.Core.Bool.{Bool, ◌&&◌}
use mathlib.Core.List.{List}
use lib.Dec.{leb, ltb, eqb}
use borrow.Author.Tests.{ltb-true, leb-true}
use Rattle.encoding.specs.Below.{any_below, least_below}
use Rattle.encoding.proofs.Below.{either, and_fst, and_snd, least_lt}
use Rattle.records.specs.Shape.{dimension_of, face_count}
use Rattle.records.specs.Record.{number_of, shape_of, neighbour_of, in_form}
use Rattle.mesh.proofs.ByDimension.{AllFit, fits_form, link_same, checked_by_dimension}
use Rattle.part.specs.Means.{in_range, neighbour_in, ghost_has}
use Rattle.mesh.specs.Means.{link_between, link_by_dimension}
use Rattle.part_check.specs.Means.{numbers_sound, tree_to, tree_face, tree_stored, ghost_to, ghost_face, ghost_stored, records_sound}

module _ (D first n g K : ℕ) (tree ghostly : ℕ → List ℕ) where
  module _ (fits : AllFit D n g tree ghostly) where
    tree-to-same : (i : ℕ) → i < n → (f : ℕ) → f < face_count (shape_of (tree i)) → (j : ℕ) → tree_to (link_by_dimension D) n g tree ghostly i f j ≡ tree_to link_between n g tree ghostly i f j
    unfolding tree_to
    tree-to-same i h f l j =
        either (ltb j n)
        (λ p. rw p (link_same D (tree i) (tree j) (fits.0 i h) (fits.0 j (ltb-true j n p)) i f l))
        (λ p. either (ltb (j - n) g)
        (λ q. rw (p, q) (link_same D (tree i) (ghostly (j - n)) (fits.0 i h) (fits.1 (j - n) (ltb-true (j - n) g q)) (number_of (tree i)) f l))
        (λ q. rw (p, q)))

    ghost-to-same : (j : ℕ) → j < g → (f : ℕ) → f < face_count (shape_of (ghostly j)) → (k : ℕ)
        → ghost_to (link_by_dimension D) first n g tree ghostly K j f k ≡ ghost_to link_between first n g tree ghostly K j f k
    unfolding ghost_to in_range
    ghost-to-same j h f l k =
        either (leb first k && ltb k (first + n))
        (λ p.
        let t : k - first < n = omega (arith, leb-true first k (and_fst (leb first k) (ltb k (first + n)) p), ltb-true k (first + n) (and_snd (leb first k) (ltb k (first + n)) p)) in
        rw p (link_same D (ghostly j) (tree (k - first)) (fits.1 j h) (fits.0 (k - first) t) (n + j) f l))
        (λ p. either (any_below g (ghost_has ghostly k))
        (λ q. let m : ℕ = least_below g (ghost_has ghostly k) in rw (p, q) (link_same D (ghostly j) (ghostly m) (fits.1 j h) (fits.1 m (least_lt g (ghost_has ghostly k) q)) (number_of (ghostly j)) f l))
        (λ q. rw (p, q)))

  -- a part is found sound by the dimension exactly where it is by the definition
  pub records_by_dimension : records_sound (link_by_dimension D) first n g tree ghostly D K ≡ records_sound link_between first n g tree ghostly D K
  unfolding records_sound tree_stored tree_face ghost_stored ghost_face
  records_by_dimension =
      ap (λ (b : Bool). numbers_sound first n g tree ghostly K && b)
      (checked_by_dimension D n g tree ghostly
      (λ i. in_form i (tree i) && eqb (dimension_of (shape_of (tree i))) D)
      (λ j. in_form (number_of (ghostly j)) (ghostly j) && eqb (dimension_of (shape_of (ghostly j))) D && any_below (face_count (shape_of (ghostly j))) (neighbour_in first (first + n) (ghostly j)))
      (λ link i f. tree_to link n g tree ghostly i f (neighbour_of (tree i) f))
      (λ link j f. ghost_to link first n g tree ghostly K j f (neighbour_of (ghostly j) f))
      (λ i h e. fits_form D i (tree i) e)
      (λ j h e. fits_form D (number_of (ghostly j)) (ghostly j) (and_fst _ (any_below (face_count (shape_of (ghostly j))) (neighbour_in first (first + n) (ghostly j))) e))
      (λ fits i h f l. tree-to-same fits i h f l (neighbour_of (tree i) f))
      (λ fits j h f l. ghost-to-same fits j h f l (neighbour_of (ghostly j) f)))
