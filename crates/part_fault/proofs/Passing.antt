-- The fast check of one record passes it exactly where nothing is wrong with it, whatever the records are that it leads to.
use Prim.Native.Nat.{ℕ, ◌+◌, ◌-◌, ◌≤◌, ◌<◌}
use native.Mathlib.Omega.{arith}
use mathlib.Core.Path.{◌≡◌, refl, sym, ap, ap₂, ◌∙◌}
use mathlib.Core.Bool.{Bool, true, false, ◌&&◌}
use mathlib.Core.List.{List}
use Rattle.std.specs.Prelude.{Some, None}
use lib.Dec.{eqb, ltb}
use Rattle.encoding.specs.Below.{all_below, any_below, least_below}
use Rattle.encoding.specs.Pieces.{piece}
use Rattle.encoding.proofs.Below.{either, and_fst, all_same}
use Rattle.records.specs.Shape.{dimension_of, face_count}
use Rattle.records.specs.Record.{core_size, number_of, shape_of, neighbour_of, in_form}
use Rattle.mesh.specs.Link.{orientation_ok}
use Rattle.mesh.specs.Means.{link_between, link_by_dimension}
use Rattle.mesh.proofs.ByDimension.{Fits, fits_form}
use Rattle.part.specs.Layout.{tree_place, ghost_place}
use Rattle.part.specs.View.{View}
use Rattle.part.specs.Means.{in_range, neighbour_in, ghost_core, ghost_has}
use Rattle.part.specs.Part.{stored_tree, stored_ghost, view_of}
use Rattle.part.proofs.Ranges.{range_last}
use Rattle.part_check.specs.Means.{tree_to, tree_face, tree_stored, tree_numbered, ghost_numbered, ghost_to, ghost_face, ghost_stored}
use Rattle.faults.proofs.OneRecord.{link_any}
use Rattle.part_fault.specs.declared.search.Extent.{Extent}
use Rattle.part_fault.specs.declared.search.Way.{Way}
use Rattle.part_fault.specs.Wrong.{tree_wrong_in, found_in, ghost_wrong_in}
use Rattle.part_fault.specs.Means.{Known, GhostWay}
use Rattle.part_fault.proofs.Found.{known_numbered, looked_some, looked_none}
use Rattle.part_fault.proofs.Right.{tree_right, ghost_right}

-- links read by the dimension
module _ (D n g : ℕ) (tree ghostly : ℕ → List ℕ) where
  tree-to-any : (i : ℕ) → Fits D (tree i) → (f : ℕ) → f < face_count (shape_of (tree i)) → (m : ℕ) → tree_to (link_by_dimension D) n g tree ghostly i f m ≡ tree_to link_between n g tree ghostly i f m
  unfolding tree_to
  tree-to-any i fits f h m =
      either (ltb m n)
      (λ p. rw p (link_any D (tree i) fits (tree m) i f h))
      (λ p. either (ltb (m - n) g) (λ q. rw (p, q) (link_any D (tree i) fits (ghostly (m - n)) (number_of (tree i)) f h)) (λ q. rw (p, q)))

  tree-any : (i : ℕ) → tree_stored (link_by_dimension D) n g tree ghostly D i ≡ tree_stored link_between n g tree ghostly D i
  unfolding tree_stored tree_face
  tree-any i =
      let r : List ℕ = tree i in
      let alone : Bool = in_form i r && eqb (dimension_of (shape_of r)) D in
      either alone
      (λ e. ap (λ (b : Bool). alone && b)
      (all_same (face_count (shape_of r)) (λ f. tree_to (link_by_dimension D) n g tree ghostly i f (neighbour_of r f)) (λ f. tree_to link_between n g tree ghostly i f (neighbour_of r f)) (λ f h. tree-to-any i (fits_form D i r e) f h (neighbour_of r f))))
      (λ e. rw e)

  module _ (first K : ℕ) where
    ghost-to-any : (j : ℕ) → Fits D (ghostly j) → (f : ℕ) → f < face_count (shape_of (ghostly j)) → (k : ℕ)
        → ghost_to (link_by_dimension D) first n g tree ghostly K j f k ≡ ghost_to link_between first n g tree ghostly K j f k
    unfolding ghost_to
    ghost-to-any j fits f h k =
        either (in_range first (first + n) k)
        (λ p. rw p (link_any D (ghostly j) fits (tree (k - first)) (n + j) f h))
        (λ p. either (any_below g (ghost_has ghostly k))
        (λ q. rw (p, q) (link_any D (ghostly j) fits (ghostly (least_below g (ghost_has ghostly k))) (number_of (ghostly j)) f h))
        (λ q. rw (p, q)))

    ghost-any : (j : ℕ) → ghost_stored (link_by_dimension D) first n g tree ghostly D K j ≡ ghost_stored link_between first n g tree ghostly D K j
    unfolding ghost_stored ghost_face
    ghost-any j =
        let r : List ℕ = ghostly j in
        let alone : Bool = in_form (number_of r) r && eqb (dimension_of (shape_of r)) D in
        let b : Bool = any_below (face_count (shape_of r)) (neighbour_in first (first + n) r) in
        either (alone && b)
        (λ e. ap (λ (x : Bool). alone && b && x)
        (all_same (face_count (shape_of r)) (λ f. ghost_to (link_by_dimension D) first n g tree ghostly K j f (neighbour_of r f)) (λ f. ghost_to link_between first n g tree ghostly K j f (neighbour_of r f)) (λ f h. ghost-to-any j (fits_form D (number_of r) r (and_fst alone b e)) f h (neighbour_of r f))))
        (λ e. rw e)

-- over what the part says
module _ (v : View) where
  tree-checked : (i : ℕ) → (tree_numbered v.first v.stored i && tree_stored (link_by_dimension v.dimension) v.n v.g v.stored v.ghost v.dimension i) ≡ eqb (tree_wrong_in v i).kind 0
  tree-checked i = ap (λ (b : Bool). tree_numbered v.first v.stored i && b) (tree-any v.dimension v.n v.g v.stored v.ghost i) ∙ sym (tree_right v i)

  ghost-checked : (j : ℕ) → ghost_numbered v.first v.n v.ghost v.K j ≡ true
      → ghost_stored (link_by_dimension v.dimension) v.first v.n (found_in v) v.stored v.ghost v.dimension v.K j ≡ eqb (ghost_wrong_in v j).kind 0
  ghost-checked j o =
      ghost-any v.dimension v.n (found_in v) v.stored v.ghost v.first v.K j
      ∙ sym (ghost_right v j ∙ ap (λ (b : Bool). b && ghost_stored link_between v.first v.n (found_in v) v.stored v.ghost v.dimension v.K j) o)

and_four : (a b c d : Bool) → (a && b && c && d) ≡ (a && (b && c && d))
and_four true b c d = refl
and_four false b c d = refl

-- what the code reads
module _ (part : List ℕ) (e : Extent) (known : Known part e) where
  tree-known : (i : ℕ)
      → (tree_numbered e.first (stored_tree part) i && tree_stored (link_by_dimension e.dimension) e.count e.ghosts (stored_tree part) (ghost_core part e.count) e.dimension i) ≡ eqb (tree_wrong_in (view_of part) i).kind 0
  unfolding stored_ghost ghost_core
  tree-known i = rw (known.is_first, known.is_count, known.is_ghosts, known.is_dimension) (tree-checked (view_of part) i)

  -- a tree that passes the tests of dimension 3
  pub tree_plain : (i : ℕ) → e.dimension ≡ 3
      → (tree_numbered e.first (stored_tree part) i && tree_stored (link_by_dimension 3) e.count e.ghosts (stored_tree part) (ghost_core part e.count) 3 i) ≡ true → eqb (tree_wrong_in (view_of part) i).kind 0 ≡ true
  tree_plain i three t = sym (tree-known i) ∙ rw three t

  tree_read : (i : ℕ) {at : ℕ} {a d : Bool} {shape dimension faces : ℕ} → at ≡ tree_place i → shape ≡ shape_of (piece part at core_size) → a ≡ in_form i (piece part at core_size) → dimension ≡ dimension_of shape → faces ≡ face_count shape
      → d ≡ all_below faces (tree_face (link_by_dimension e.dimension) e.count e.ghosts (stored_tree part) (ghost_core part e.count) i)
      → (a && eqb dimension e.dimension && d) ≡ tree_stored (link_by_dimension e.dimension) e.count e.ghosts (stored_tree part) (ghost_core part e.count) e.dimension i
  unfolding tree_stored stored_tree
  tree_read i here ps pa pd pf pl = rw (← here, pa, pd, pl, pf, ps)

  pub tree_passed : (i : ℕ) {at : ℕ} {b a d : Bool} {shape dimension faces : ℕ} → at ≡ tree_place i → b ≡ tree_numbered e.first (stored_tree part) i → shape ≡ shape_of (piece part at core_size) → a ≡ in_form i (piece part at core_size)
      → dimension ≡ dimension_of shape → faces ≡ face_count shape → d ≡ all_below faces (tree_face (link_by_dimension e.dimension) e.count e.ghosts (stored_tree part) (ghost_core part e.count) i)
      → (b && a && eqb dimension e.dimension && d) ≡ eqb (tree_wrong_in (view_of part) i).kind 0
  tree_passed i {at} {b} {a} {d} {shape} {dimension} {faces} here pb ps pa pd pf pl =
      and_four b a (eqb dimension e.dimension) d ∙ ap₂ ◌&&◌ pb (tree_read i here ps pa pd pf pl) ∙ tree-known i

  ghost-known : (j : ℕ) → j < e.found
      → ghost_stored (link_by_dimension e.dimension) e.first e.count e.found (stored_tree part) (ghost_core part e.count) e.dimension e.trees j ≡ eqb (ghost_wrong_in (view_of part) j).kind 0
  unfolding stored_ghost ghost_core
  ghost-known j h = rw (known.is_first, known.is_count, known.is_found, known.is_dimension, known.is_trees) (ghost-checked (view_of part) j (known_numbered part e known j h))

  pub ghost_passed : (j : ℕ) {at v : ℕ} {a b d : Bool} {shape dimension faces : ℕ} → j < e.found → at ≡ ghost_place e.count j → v ≡ number_of (piece part at core_size) → shape ≡ shape_of (piece part at core_size) → faces ≡ face_count shape
      → a ≡ in_form v (piece part at core_size) → dimension ≡ dimension_of shape → b ≡ any_below faces (neighbour_in e.first (e.first + e.count) (piece part at core_size))
      → d ≡ all_below faces (ghost_face (link_by_dimension e.dimension) e.first e.count e.found (stored_tree part) (ghost_core part e.count) e.trees j)
      → (a && eqb dimension e.dimension && b && d) ≡ eqb (ghost_wrong_in (view_of part) j).kind 0
  unfolding ghost_stored ghost_core
  ghost_passed j h here pv ps pf pa pd pb pl = rw (pa, pd, pb, pl, pf, ps, pv, here) (ghost-known j h)

-- where the link of a ghost leads, and its rule
module _ (part : List ℕ) (e : Extent) (known : Known part e) (j k : ℕ) where
  module _ {b : Bool} (test : b ≡ in_range e.first (e.first + e.count) k) where
    pub way_tree : (t : ℕ) {own to : ℕ} → b ≡ true → t + e.first ≡ k → own ≡ e.count + j → to ≡ tree_place t → GhostWay part e j k (Some (record { to = to; back = own }))
    unfolding ghost_to stored_tree
    way_tree t h l q there =
        let s : k - e.first ≡ t = omega arith in
        (omega (arith, known.laid.long, range_last e.first (e.first + e.count) k test h), λ f. rw (← test, h, s, ← there, q))

    module _ (out : b ≡ false) {p : ℕ} (position : p ≡ least_below e.found (ghost_has (ghost_core part e.count) k)) where
      pub way_ghost : {at v to : ℕ} → p < e.found → at ≡ ghost_place e.count j → v ≡ number_of (piece part at core_size) → to ≡ ghost_place e.count p → GhostWay part e j k (Some (record { to = to; back = v }))
      unfolding ghost_to ghost_core
      way_ghost h here q there =
          (omega (arith, known.laid.long, known.within), λ f. rw (← here, ← test, out, looked_some e.found (ghost_has (ghost_core part e.count) k) position h, ← position, ← there, q))

      pub way_none : e.found ≤ p → GhostWay part e j k None
      unfolding ghost_to
      way_none h = λ f. rw (← test, out, looked_none e.found (ghost_has (ghost_core part e.count) k) position h)

  module _ (f : ℕ) {at : ℕ} (here : at ≡ ghost_place e.count j) (read : k ≡ neighbour_of (piece part at core_size) f) where
    pub way_held : (w : Way) {r : Bool} → GhostWay part e j k (Some w) → r ≡ link_by_dimension e.dimension w.back (piece part at core_size) f (piece part w.to core_size)
        → r ≡ ghost_face (link_by_dimension e.dimension) e.first e.count e.found (stored_tree part) (ghost_core part e.count) e.trees j f
    unfolding ghost_face ghost_core
    way_held w way p = rw (← here, ← read, ← way.1 f, ← here, p)

    pub way_free : {q : Bool} → GhostWay part e j k None → q ≡ orientation_ok (piece part at core_size) f
        → (ltb k e.trees && q) ≡ ghost_face (link_by_dimension e.dimension) e.first e.count e.found (stored_tree part) (ghost_core part e.count) e.trees j f
    unfolding ghost_face ghost_core
    way_free way p = rw (← here, ← read, ← way f, ← here, p)
