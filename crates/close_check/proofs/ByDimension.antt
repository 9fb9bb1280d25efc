-- Where all records in the slots have the area's dimension, links may be read by that dimension.
use Prim.Native.Nat.{ℕ, ◌+◌, ◌-◌, ◌<◌}
use native.Mathlib.Omega.{arith}
use mathlib.Core.Path.{◌≡◌}
use mathlib.Core.Bool.{true, ◌&&◌}
use mathlib.Core.List.{List}
use lib.Dec.{leb, ltb, eqb}
use borrow.Author.Tests.{ltb-true, leb-true, eqb-true}
use Rattle.encoding.specs.Below.{any_below, least_below}
use Rattle.encoding.proofs.Below.{either, and_fst, and_snd, least_lt}
use Rattle.records.specs.Shape.{shape_ok, dimension_of, face_count}
use Rattle.records.specs.Record.{number_of, shape_of, neighbour_of}
use Rattle.mesh.specs.Means.{link_between, link_by_dimension}
use Rattle.mesh.proofs.ByDimension.{Fits, AllFit, link_same, checked_by_dimension}
use Rattle.part.specs.Means.{is_local, ghost_is, held, held_core, neighbour_in}
use Rattle.close_check.specs.Means.{tree_from, ghost_from, tree_to, link_of_tree, ghost_to, link_of_ghost, tree_joins, ghost_joins, records_join}

-- that every record has a shape at all is known of a sound area
module _ (D : ℕ) (a : List ℕ) (at first n g K : ℕ) (tree_ok : (i : ℕ) → i < n → shape_ok (shape_of (tree_from a at i)) ≡ true) (ghost-ok : (j : ℕ) → j < g → shape_ok (shape_of (ghost_from a at n j)) ≡ true) where
  abbrev tree : ℕ → List ℕ
  tree = tree_from a at

  abbrev ghostly : ℕ → List ℕ
  ghostly = ghost_from a at n

  module _ (fits : AllFit D n g tree ghostly) where
    held_fits : (k : ℕ) → held first n g tree ghostly k ≡ true → Fits D (held_core first n g tree ghostly k)
    unfolding held held_core is_local
    held_fits k e =
        either (leb first k && ltb k (first + n))
        (λ p.
        let t : k - first < n = omega (arith, leb-true first k (and_fst (leb first k) (ltb k (first + n)) p), ltb-true k (first + n) (and_snd (leb first k) (ltb k (first + n)) p)) in
        rw p (fits.0 (k - first) t))
        (λ p. rw p (fits.1 (least_below g (ghost_is first n g tree ghostly k)) (least_lt g (ghost_is first n g tree ghostly k) (rw p at e))))

    tree-to-same : (i : ℕ) → i < n → (f : ℕ) → f < face_count (shape_of (tree_from a at i)) → (k : ℕ) → tree_to (link_by_dimension D) a at first n g i f k ≡ tree_to link_between a at first n g i f k
    unfolding tree_to
    tree-to-same i h f l k =
        either (held first n g tree ghostly k) (λ p. rw p (link_same D (tree_from a at i) (held_core first n g tree ghostly k) (fits.0 i h) (held_fits k p) (first + i) f l)) (λ p. rw p)

    ghost-to-same : (j : ℕ) → j < g → (f : ℕ) → f < face_count (shape_of (ghost_from a at n j)) → (k : ℕ) → ghost_to (link_by_dimension D) a at first n g K j f k ≡ ghost_to link_between a at first n g K j f k
    unfolding ghost_to
    ghost-to-same j h f l k =
        either (held first n g tree ghostly k) (λ p. rw p (link_same D (ghost_from a at n j) (held_core first n g tree ghostly k) (fits.1 j h) (held_fits k p) (number_of (ghost_from a at n j)) f l)) (λ p. rw p)

  -- the tests hold by the dimension exactly where they do by the definition
  pub records_by_dimension : records_join (link_by_dimension D) a at first n g D K ≡ records_join link_between a at first n g D K
  unfolding records_join tree_joins link_of_tree ghost_joins link_of_ghost
  records_by_dimension =
      checked_by_dimension D n g tree ghostly
      (λ i. eqb (dimension_of (shape_of (tree_from a at i))) D)
      (λ j. eqb (dimension_of (shape_of (ghost_from a at n j))) D && any_below (face_count (shape_of (ghost_from a at n j))) (neighbour_in first (first + n) (ghost_from a at n j)))
      (λ link i f. tree_to link a at first n g i f (neighbour_of (tree_from a at i) f))
      (λ link j f. ghost_to link a at first n g K j f (neighbour_of (ghost_from a at n j) f))
      (λ i h e. (tree_ok i h, eqb-true _ _ e))
      (λ j h e. (ghost-ok j h, eqb-true _ _ (and_fst (eqb (dimension_of (shape_of (ghost_from a at n j))) D) (any_below (face_count (shape_of (ghost_from a at n j))) (neighbour_in first (first + n) (ghost_from a at n j))) e)))
      (λ fits i h f l. tree-to-same fits i h f l (neighbour_of (tree_from a at i) f))
      (λ fits j h f l. ghost-to-same fits j h f l (neighbour_of (ghost_from a at n j) f))
