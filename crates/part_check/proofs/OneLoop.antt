-- The loops of `linked` over a part's records find what records_sound says.
use Prim.Native.Nat.{ℕ, ◌+◌}
use native.Mathlib.Omega.{arith}
use mathlib.Core.Path.{◌≡◌, refl, sym, ap, fun_ext, ◌∙◌}
use mathlib.Core.Bool.{Bool, true, false, ◌&&◌, and-false}
use mathlib.Core.List.{List}
use lib.Dec.{eqb}
use borrow.Author.Tests.{eqb-true}
use Rattle.encoding.specs.Below.{all_below, any_below}
use Rattle.encoding.specs.Pieces.{piece}
use Rattle.encoding.proofs.Below.{either, all_same, all_and}
use Rattle.records.specs.Shape.{dimension_of, face_count}
use Rattle.records.specs.Record.{core_size, number_of, shape_of, in_form}
use Rattle.mesh.specs.Means.{link_by_dimension}
use Rattle.part.specs.Layout.{tree_place, ghost_place}
use Rattle.part.specs.Part.{stored_tree}
use Rattle.part.specs.Means.{neighbour_in, ghost_core}
use Rattle.ghost_links.specs.Means.{core_from}
use Rattle.linked.specs.declared.layout.Records.{Records}
use Rattle.linked.specs.Means.{tree_of, ghost_of, named, name_of, place_of, tree_link, ghost_link, tree_whole, ghost_whole, ghost_after, records_linked}
use Rattle.linked.specs.Means.{tree_numbered as numbered_tree, ghost_numbered as numbered_ghost, tree_to as link_of_tree, ghost_to as link_of_ghost, records_sound as records_right}
use Rattle.linked.proofs.Seeing.{pick_true}
use Rattle.part_check.specs.Means.{tree_to, tree_face, tree_stored, tree_numbered, ghost_behind, ghost_numbered, numbers_sound, ghost_to, ghost_face, ghost_stored, records_sound}

-- the same tests in another order
order : (a b c d : Bool) → (a && ((b && c) && d)) ≡ ((b && a) && (c && d))
order true true c d = refl
order true false c d = refl
order false true c d = refl
order false false c d = refl

four : (a b c d : Bool) → (((a && b) && c) && d) ≡ (b && ((a && c) && d))
four true true c d = refl
four true false c d = refl
four false true c d = refl
four false false c d = refl

-- the records of a part: trees from the header on, then the ghosts; neighbours are local indices
module _ (part : List ℕ) (x : Records) (head : x.head ≡ tree_place 0) (tail : x.tail ≡ ghost_place x.count 0) (local : x.local ≡ true) where
  trees_are : tree_of part x ≡ stored_tree part
  unfolding tree_of stored_tree
  trees_are = fun_ext (λ i. ap (λ (p : ℕ). piece part p core_size) (omega (arith, head)))

  ghosts-are : ghost_of part x ≡ ghost_core part x.count
  unfolding ghost_of core_from ghost_core
  ghosts-are = fun_ext (λ j. ap (λ (p : ℕ). piece part p core_size) (omega (arith, tail)))

  name-is : (b : ℕ) → name_of part x b ≡ b
  unfolding name_of
  name-is b = pick_true x.local _ _ local

  place_is : (v : ℕ) → place_of part x v ≡ v
  unfolding place_of
  place_is v = pick_true x.local _ _ local

  abbrev link : ℕ → List ℕ → ℕ → List ℕ → Bool
  link = link_by_dimension x.dimension

  number_is : (i : ℕ) → numbered_tree part x i ≡ tree_numbered x.first.0 (stored_tree part) i
  unfolding numbered_tree tree_numbered
  number_is i = rw trees_are

  -- ---- trees

  module _ (i : ℕ) (numbered : tree_numbered x.first.0 (stored_tree part) i ≡ true) where
    number_read : x.first.0 + i ≡ number_of (stored_tree part i)
    unfolding tree_numbered
    number_read = sym (eqb-true _ _ numbered)

    tree_to_lem : (f b : ℕ) → link_of_tree part x i f b ≡ tree_to (link_by_dimension x.dimension) x.count x.ghosts (stored_tree part) (ghost_core part x.count) i f b
    unfolding link_of_tree tree_to
    tree_to_lem f b = rw (name-is i, trees_are, ghosts-are, number_read)

    tree-link : (f : ℕ) → tree_link part x i f ≡ tree_face (link_by_dimension x.dimension) x.count x.ghosts (stored_tree part) (ghost_core part x.count) i f
    unfolding tree_link named tree_face
    tree-link f = rw (place_is, trees_are) (tree_to_lem f _)

  tree_is : (i : ℕ) → tree_whole part x i ≡ (tree_numbered x.first.0 (stored_tree part) i && tree_stored (link_by_dimension x.dimension) x.count x.ghosts (stored_tree part) (ghost_core part x.count) x.dimension i)
  unfolding tree_whole tree_stored
  tree_is i =
      let form : Bool = in_form i (stored_tree part i) in
      let shape : Bool = eqb (dimension_of (shape_of (stored_tree part i))) x.dimension in
      let faces : ℕ = face_count (shape_of (stored_tree part i)) in
      rw (name-is i, number_is i, trees_are)
      (either (tree_numbered x.first.0 (stored_tree part) i)
      (λ e. four form _ shape _ ∙ ap (λ (b : Bool). tree_numbered x.first.0 (stored_tree part) i && ((form && shape) && b)) (all_same faces (tree_link part x i) (tree_face link x.count x.ghosts (stored_tree part) (ghost_core part x.count) i) (λ f l. tree-link i e f)))
      (λ e. rw (e, and-false form)))

  -- ---- ghosts

  after_is : (j : ℕ) → ghost_after part x j ≡ ghost_behind (ghost_core part x.count) j
  unfolding ghost_after ghost_behind
  after_is j = rw ghosts-are

  ghost-number : (j : ℕ) → numbered_ghost part x j ≡ ghost_numbered x.first.0 x.count (ghost_core part x.count) x.trees j
  unfolding numbered_ghost ghost_numbered
  ghost-number j = rw (after_is j, ghosts-are)

  ghost-to : (j f k : ℕ) → link_of_ghost part x j f k ≡ ghost_to (link_by_dimension x.dimension) x.first.0 x.count x.ghosts (stored_tree part) (ghost_core part x.count) x.trees j f k
  unfolding link_of_ghost ghost_to
  ghost-to j f k = rw (name-is (x.count + j), trees_are, ghosts-are)

  ghost-link : (j f : ℕ) → ghost_link part x j f ≡ ghost_face (link_by_dimension x.dimension) x.first.0 x.count x.ghosts (stored_tree part) (ghost_core part x.count) x.trees j f
  unfolding ghost_link ghost_face
  ghost-link j f = rw ghosts-are (ghost-to j f _)

  ghost_is_lem : (j : ℕ) → ghost_whole part x j ≡ ghost_stored (link_by_dimension x.dimension) x.first.0 x.count x.ghosts (stored_tree part) (ghost_core part x.count) x.dimension x.trees j
  unfolding ghost_whole ghost_stored
  ghost_is_lem j =
      let r : List ℕ = ghost_core part x.count j in
      let alone : Bool = in_form (number_of r) r && eqb (dimension_of (shape_of r)) x.dimension && any_below (face_count (shape_of r)) (neighbour_in x.first.0 (x.first.0 + x.count) r) in
      rw ghosts-are
      (ap (λ (b : Bool). alone && b) (all_same (face_count (shape_of (ghost_core part x.count j))) (ghost_link part x j) (ghost_face link x.first.0 x.count x.ghosts (stored_tree part) (ghost_core part x.count) x.trees j) (λ f l. ghost-link j f)))

  -- ---- all records

  pub records_are : records_right part x ≡ records_sound (link_by_dimension x.dimension) x.first.0 x.count x.ghosts (stored_tree part) (ghost_core part x.count) x.dimension x.trees
  unfolding records_right records_linked records_sound numbers_sound
  records_are =
      let N : Bool = all_below x.count (tree_numbered x.first.0 (stored_tree part)) in
      let G : Bool = all_below x.ghosts (ghost_numbered x.first.0 x.count (ghost_core part x.count) x.trees) in
      let T : Bool = all_below x.count (tree_stored link x.count x.ghosts (stored_tree part) (ghost_core part x.count) x.dimension) in
      let S : Bool = all_below x.ghosts (ghost_stored link x.first.0 x.count x.ghosts (stored_tree part) (ghost_core part x.count) x.dimension x.trees) in
      let trees : all_below x.count (tree_whole part x) ≡ (N && T) =
      all_same x.count (tree_whole part x) (λ i. tree_numbered x.first.0 (stored_tree part) i && tree_stored link x.count x.ghosts (stored_tree part) (ghost_core part x.count) x.dimension i) (λ i l. tree_is i)
      ∙ all_and x.count (tree_numbered x.first.0 (stored_tree part)) (tree_stored link x.count x.ghosts (stored_tree part) (ghost_core part x.count) x.dimension) in
      let ghosts : all_below x.ghosts (ghost_whole part x) ≡ S =
      all_same x.ghosts (ghost_whole part x) (ghost_stored link x.first.0 x.count x.ghosts (stored_tree part) (ghost_core part x.count) x.dimension x.trees) (λ j l. ghost_is_lem j) in
      let numbers : all_below x.ghosts (numbered_ghost part x) ≡ G =
      all_same x.ghosts (numbered_ghost part x) (ghost_numbered x.first.0 x.count (ghost_core part x.count) x.trees) (λ j l. ghost-number j) in
      rw (numbers, trees, ghosts) (order G N T S)
