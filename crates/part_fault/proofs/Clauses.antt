-- What is said of a record with which nothing is wrong, in the words of soundness; and that this, of every record, is soundness.
use Prim.Native.Nat.{ℕ, ◌+◌, ◌-◌, ◌≤◌, ◌<◌}
use native.Mathlib.Omega.{arith}
use native.Mathlib.Nat.{add-sub_cancel_left}
use mathlib.Core.Path.{◌≡◌, refl, sym, ◌∙◌}
use mathlib.Core.Bool.{Bool, true, false, cond, not, ◌&&◌}
use mathlib.Core.List.{List}
use lib.Dec.{eqb, leb, ltb}
use borrow.Author.Tests.{lt-ltb, le-ltb, le-leb, eq-eqb, eqb-true, ltb-true, leb-true, not-true, not-false}
use Rattle.encoding.specs.Below.{all_below, any_below, least_below}
use Rattle.encoding.specs.Pieces.{Bytes}
use Rattle.encoding.specs.Refusal.{first_failed}
use Rattle.encoding.proofs.Below.{either, tests, clash, and_fst, and_snd, and_intro, all_at, all_intro, any_at, any_intro, any_false, least_lt, least_at, least_is, least_below_lem}
use Rattle.records.specs.Shape.{dimension_of, face_count, corners}
use Rattle.records.specs.Record.{number_of, shape_of, neighbour_of, face_of, orientation_of, in_form}
use Rattle.mesh.specs.Link.{orientation_ok, same_corners, answered}
use Rattle.mesh.specs.Means.{link_between}
use Rattle.mesh.proofs.Soundness.{corners_there, answered_back}
use Rattle.part.specs.View.{View, local_in, ghost_ascends, tree_in_form, ghost_in_form}
use Rattle.part.specs.Means.{in_range, neighbour_in, ghost_has}
use Rattle.part.specs.Part.{view_of, part_sound}
use Rattle.part.specs.Checks.{rank_checks}
use Rattle.part.proofs.Checks.{rank_known, rank_passes}
use Rattle.part_check.specs.Calls.{part_refusal}
use Rattle.part_check.specs.Means.{tree_to, tree_face, tree_stored, tree_numbered, ghost_behind, ghost_numbered, numbers_sound, ghost_to, ghost_face, ghost_stored, records_sound}
use Rattle.part_check.proofs.Judging.{numbered_ascend}
use Rattle.part_fault.specs.Wrong.{tree_wrong_in, ghost_order_in, found_in, ghost_wrong_in}
use Rattle.part_fault.specs.Calls.{part_headed}
use Rattle.part_fault.specs.Theorems.{obeys, TreeRight, GhostRight, RightMeans, RightIsSound}
use Rattle.part_fault.proofs.Right.{tree_right, ghost_right, found_all, records_right, part_right}

-- a link that obeys the rule leads to a face that the other record has, and which leads back
module _ (back : ℕ) (r : List ℕ) (f : ℕ) (s : List ℕ) (e : obeys back r f s ≡ true) where
  first_two : (orientation_ok r f && same_corners r f s) ≡ true
  first_two = and_fst (orientation_ok r f && same_corners r f s) (answered back r f s) e

  face_there : face_of r f < face_count (shape_of s)
  unfolding orientation_ok same_corners
  face_there =
      let turned : orientation_of r f < corners (shape_of r) f = ltb-true _ _ (and_fst (orientation_ok r f) (same_corners r f s) first_two) in
      let alike : corners (shape_of r) f ≡ corners (shape_of s) (face_of r f) = eqb-true _ _ (and_snd (orientation_ok r f) (same_corners r f s) first_two) in
      corners_there (shape_of s) (face_of r f) (omega arith)

  leads-back : neighbour_of s (face_of r f) ≡ back
  leads-back = (answered_back back r f s (and_snd (orientation_ok r f && same_corners r f s) (answered back r f s) e)).0

module _ (v : View) where
  -- ---- trees

  module _ (i : ℕ) where
    abbrev r : List ℕ
    r = v.stored i

    abbrev shaped : Bool
    shaped = eqb (dimension_of (shape_of r)) v.dimension

    abbrev linked : Bool
    linked = all_below (face_count (shape_of r)) (tree_face link_between v.n v.g v.stored v.ghost i)

    module _ (number : tree_numbered v.first v.stored i ≡ true) (stored : tree_stored link_between v.n v.g v.stored v.ghost v.dimension i ≡ true) where
      alone : (in_form i r && shaped) ≡ true
      unfolding tree_stored
      alone = and_fst (in_form i r && shaped) linked stored

      tree_form : tree_in_form v i ≡ true
      unfolding tree_in_form tree_numbered
      tree_form = rw (and_fst (in_form i r) shaped alone, number, and_snd (in_form i r) shaped alone)

      tree_to_lem : (f : ℕ) → f < face_count (shape_of r) → tree_to link_between v.n v.g v.stored v.ghost i f (neighbour_of r f) ≡ true
      unfolding tree_stored tree_face
      tree_to_lem f h = all_at (face_count (shape_of r)) (λ f. tree_to link_between v.n v.g v.stored v.ghost i f (neighbour_of r f)) (and_snd (in_form i r && shaped) linked stored) f h

      tree_held : (f : ℕ) → f < face_count (shape_of r) → neighbour_of r f < v.n + v.g
      unfolding tree_to
      tree_held f h =
          let m : ℕ = neighbour_of r f in
          either (ltb m v.n) (λ p. omega tests)
          (λ p. either (ltb (m - v.n) v.g) (λ q. omega tests) (λ q. clash refl (sym (tree_to_lem f h) ∙ rw (p, q))))

      to_tree : (f m : ℕ) → f < face_count (shape_of r) → m < v.n → neighbour_of r f ≡ m → obeys i r f (v.stored m) ≡ true
      unfolding tree_to link_between
      to_tree f m h l e = rw (e, lt-ltb m v.n l) at (tree_to_lem f h)

      to_ghost : (f j : ℕ) → f < face_count (shape_of r) → j < v.g → neighbour_of r f ≡ v.n + j → obeys (number_of r) r f (v.ghost j) ≡ true
      unfolding tree_to link_between
      to_ghost f j h l e = rw (e, le-ltb (v.n + j) v.n (omega arith), add-sub_cancel_left v.n j, lt-ltb j v.g l) at (tree_to_lem f h)

      pub tree_clauses : TreeRight v i
      tree_clauses = record { in_form_lem = tree_form; held = tree_held; to_tree = to_tree; to_ghost = to_ghost }

    pub quiet_tree : (tree_wrong_in v i).kind ≡ 0 → TreeRight v i
    quiet_tree e =
        let number : Bool = tree_numbered v.first v.stored i in
        let stored : Bool = tree_stored link_between v.n v.g v.stored v.ghost v.dimension i in
        let both : (number && stored) ≡ true = sym (tree_right v i) ∙ eq-eqb (tree_wrong_in v i).kind 0 e in
        tree_clauses (and_fst number stored both) (and_snd number stored both)

    -- and back
    module _ (right : TreeRight v i) where
      in-form-two : (in_form i r && eqb (number_of r) (v.first + i)) ≡ true
      unfolding tree_in_form
      in-form-two = and_fst (in_form i r && eqb (number_of r) (v.first + i)) shaped right.in_form_lem

      pub right_number : tree_numbered v.first v.stored i ≡ true
      unfolding tree_numbered
      right_number = and_snd (in_form i r) (eqb (number_of r) (v.first + i)) in-form-two

      tree-shaped : shaped ≡ true
      unfolding tree_in_form
      tree-shaped = and_snd (in_form i r && eqb (number_of r) (v.first + i)) shaped right.in_form_lem

      tree_linked : (f : ℕ) → f < face_count (shape_of r) → tree_to link_between v.n v.g v.stored v.ghost i f (neighbour_of r f) ≡ true
      unfolding tree_to link_between
      tree_linked f h =
          let m : ℕ = neighbour_of r f in
          let held = right.held f h in
          either (ltb m v.n)
          (λ p. rw p (right.to_tree f m h (ltb-true _ _ p) refl))
          (λ p. let q : m - v.n < v.g = omega tests in rw (p, lt-ltb (m - v.n) v.g q) (right.to_ghost f (m - v.n) h q (omega tests)))

      pub right_tree : tree_stored link_between v.n v.g v.stored v.ghost v.dimension i ≡ true
      unfolding tree_stored tree_face
      right_tree =
          and_intro (in_form i r && shaped) (all_below (face_count (shape_of r)) (λ f. tree_to link_between v.n v.g v.stored v.ghost i f (neighbour_of r f)))
          (and_intro (in_form i r) shaped (and_fst (in_form i r) (eqb (number_of r) (v.first + i)) in-form-two) tree-shaped)
          (all_intro (face_count (shape_of r)) (λ f. tree_to link_between v.n v.g v.stored v.ghost i f (neighbour_of r f)) tree_linked)

  -- ---- ghosts

  abbrev number : ℕ → ℕ
  number j = number_of (v.ghost j)

  abbrev ordered : ℕ → Bool
  ordered = ghost_numbered v.first v.n v.ghost v.K

  -- k is in f(p)
  range_is : (k : ℕ) → in_range v.first (v.first + v.n) k ≡ local_in v k
  unfolding in_range
  range_is k = refl

  module _ (j : ℕ) (e : ordered j ≡ true) where
    abbrev low : Bool
    low = ltb (number j) v.K

    abbrev out : Bool
    out = not (in_range v.first (v.first + v.n) (number j))

    low-out : (low && out) ≡ true
    unfolding ghost_numbered
    low-out = and_fst (low && out) (ghost_behind v.ghost j) e

    order_below : number j < v.K
    order_below = ltb-true _ _ (and_fst low out low-out)

    order-outside : local_in v (number j) ≡ false
    order-outside = sym (range_is (number j)) ∙ not-true _ (and_snd low out low-out)

    order-ascends : ghost_ascends v j ≡ true
    unfolding ghost_numbered ghost_ascends ghost_behind
    order-ascends = and_snd (low && out) (ghost_behind v.ghost j) e

  -- a ghost that is right is in order, however many are looked up
  module _ (looked j : ℕ) (right : GhostRight v looked j) where
    form-after : (in_form (number j) (v.ghost j) && ghost_ascends v j) ≡ true
    unfolding ghost_in_form
    form-after = and_fst (in_form (number j) (v.ghost j) && ghost_ascends v j) (eqb (dimension_of (shape_of (v.ghost j))) v.dimension) right.in_form_lem

    right-order : ordered j ≡ true
    unfolding ghost_numbered ghost_ascends ghost_behind
    right-order =
        and_intro (ltb (number j) v.K && not (in_range v.first (v.first + v.n) (number j))) (ghost_ascends v j)
        (and_intro (ltb (number j) v.K) (not (in_range v.first (v.first + v.n) (number j))) (lt-ltb _ _ right.below) (rw (range_is (number j), right.outside)))
        (and_snd (in_form (number j) (v.ghost j)) (ghost_ascends v j) form-after)

  module _ (looked : ℕ) (all-ordered : (m : ℕ) → m < looked → ordered m ≡ true) where
    -- a ghost that is looked up is found by its number
    abbrev has : ℕ → ℕ → Bool
    has = ghost_has v.ghost

    looked-up : (m : ℕ) → m < looked → any_below looked (has (number m)) ≡ true
    unfolding ghost_has
    looked-up m h = any_intro looked (has (number m)) m h (eq-eqb (number m) (number m) refl)

    looked-at : (m : ℕ) → m < looked → least_below looked (has (number m)) ≡ m
    unfolding ghost_has
    looked-at m h =
        least_is looked (has (number m)) m h (eq-eqb (number m) (number m) refl)
        (λ l k. let a = numbered_ascend v.first v.n looked v.K v.ghost all-ordered l m k h in either (eqb (number l) (number m)) (λ p. absurd (omega tests)) (λ p. p))

    module _ (j : ℕ) where
      abbrev s : List ℕ
      s = v.ghost j

      abbrev in_form_lem : Bool
      in_form_lem = in_form (number j) s

      abbrev shape : Bool
      shape = eqb (dimension_of (shape_of s)) v.dimension

      abbrev near : Bool
      near = any_below (face_count (shape_of s)) (neighbour_in v.first (v.first + v.n) s)

      abbrev faces : Bool
      faces = all_below (face_count (shape_of s)) (ghost_face link_between v.first v.n looked v.stored v.ghost v.K j)

      abbrev to : ℕ → ℕ → Bool
      to = ghost_to link_between v.first v.n looked v.stored v.ghost v.K j

      module _ (order : ordered j ≡ true) (stored : ghost_stored link_between v.first v.n looked v.stored v.ghost v.dimension v.K j ≡ true) where
        three : (in_form_lem && shape && near) ≡ true
        unfolding ghost_stored
        three = and_fst (in_form_lem && shape && near) faces stored

        two : (in_form_lem && shape) ≡ true
        two = and_fst (in_form_lem && shape) near three

        ghost_form : ghost_in_form v j ≡ true
        unfolding ghost_in_form
        ghost_form = rw (and_fst in_form_lem shape two, order-ascends j order, and_snd in_form_lem shape two)

        ghost-to : (f : ℕ) → f < face_count (shape_of s) → to f (neighbour_of s f) ≡ true
        unfolding ghost_stored ghost_face
        ghost-to f h = all_at (face_count (shape_of s)) (λ f. to f (neighbour_of s f)) (and_snd (in_form_lem && shape && near) faces stored) f h

        to_local : (f i : ℕ) → f < face_count (shape_of s) → i < v.n → neighbour_of s f ≡ v.first + i → obeys (v.n + j) s f (v.stored i) ≡ true
        unfolding ghost_to link_between in_range
        to_local f i h l e =
            rw (e, le-leb v.first (v.first + i) (omega arith), lt-ltb (v.first + i) (v.first + v.n) (omega arith), add-sub_cancel_left v.first i) at (ghost-to f h)

        to_other : (f m : ℕ) → f < face_count (shape_of s) → m < looked → neighbour_of s f ≡ number m → obeys (number j) s f (v.ghost m) ≡ true
        unfolding ghost_to link_between
        to_other f m h l e =
            rw (e, range_is (number m) ∙ order-outside m (all-ordered m l), looked-up m l, looked-at m l) at (ghost-to f h)

        none_has : (k : ℕ) → ((m : ℕ) → m < looked → k ≡ number m → ⊥) → any_below looked (has k) ≡ false
        unfolding ghost_has
        none_has k never =
            either (any_below looked (has k)) (λ p. let a = any_at looked (has k) p in absurd (never a.0 a.1 (sym (eqb-true _ _ a.2)))) (λ p. p)

        far : (f : ℕ) → f < face_count (shape_of s) → local_in v (neighbour_of s f) ≡ false → ((m : ℕ) → m < looked → neighbour_of s f ≡ number m → ⊥)
            → (neighbour_of s f < v.K) × (orientation_ok s f ≡ true)
        unfolding ghost_to
        far f h o never =
            let k : ℕ = neighbour_of s f in
            let e : (ltb k v.K && orientation_ok s f) ≡ true = rw (range_is k ∙ o, none_has k never) at (ghost-to f h) in
            (ltb-true _ _ (and_fst (ltb k v.K) (orientation_ok s f) e), and_snd (ltb k v.K) (orientation_ok s f) e)

        -- the face that leads to a tree of f(p), and that tree's face back
        beside : (i : ℕ) × (f : ℕ) × (i < v.n) × (f < face_count (shape_of (v.stored i))) × (neighbour_of (v.stored i) f ≡ v.n + j)
        unfolding neighbour_in in_range
        beside =
            let a = any_at (face_count (shape_of s)) (neighbour_in v.first (v.first + v.n) s) (and_snd (in_form_lem && shape) near three) in
            let f : ℕ = a.0 in
            let k : ℕ = neighbour_of s f in
            let lower : v.first ≤ k = leb-true _ _ (and_fst (leb v.first k) (ltb k (v.first + v.n)) a.2) in
            let upper : k < v.first + v.n = ltb-true _ _ (and_snd (leb v.first k) (ltb k (v.first + v.n)) a.2) in
            let i : ℕ = k - v.first in
            let l : i < v.n = omega arith in
            let ok : obeys (v.n + j) s f (v.stored i) ≡ true = to_local f i a.1 l (omega arith) in
            (i, face_of s f, l, face_there (v.n + j) s f (v.stored i) ok, leads-back (v.n + j) s f (v.stored i) ok)

        pub ghost_clauses : GhostRight v looked j
        ghost_clauses =
            record {
              in_form_lem = ghost_form;
              below = order_below j order;
              outside = order-outside j order;
              beside = beside;
              to_tree = to_local;
              to_ghost = to_other;
              far = far;
            }

      -- and back
      module _ (right : GhostRight v looked j) where
        right-shape : shape ≡ true
        unfolding ghost_in_form
        right-shape = and_snd (in_form_lem && ghost_ascends v j) shape right.in_form_lem

        right-face : (f : ℕ) → f < face_count (shape_of s) → to f (neighbour_of s f) ≡ true
        unfolding ghost_to link_between ghost_has
        right-face f h =
            let k : ℕ = neighbour_of s f in
            either (local_in v k)
            (λ p.
            let lower : v.first ≤ k = leb-true _ _ (and_fst (leb v.first k) (ltb k (v.first + v.n)) p) in
            let upper : k < v.first + v.n = ltb-true _ _ (and_snd (leb v.first k) (ltb k (v.first + v.n)) p) in
            rw (range_is k ∙ p) (right.to_tree f (k - v.first) h (omega arith) (omega arith)))
            (λ p. either (any_below looked (has k))
            (λ q.
            let m : ℕ = least_below looked (has k) in
            rw (range_is k ∙ p, q) (right.to_ghost f m h (least_lt looked (has k) q) (sym (eqb-true _ _ (least_at looked (has k) q)))))
            (λ q.
            let w = right.far f h p (λ m l e. clash (eq-eqb (number m) k (sym e)) (any_false looked (has k) q m l)) in
            rw (range_is k ∙ p, q) (and_intro (ltb k v.K) (orientation_ok s f) (lt-ltb _ _ w.0) w.1)))

        -- where each tree is right, the tree beside it is answered
        right_near : ((i : ℕ) → i < v.n → TreeRight v i) → j < v.g → near ≡ true
        unfolding neighbour_in in_range tree_numbered
        right_near trees l =
            let w = right.beside in
            let i : ℕ = w.0 in
            let f : ℕ = w.1 in
            let t : TreeRight v i = trees i w.2 in
            let ok : obeys (number_of (v.stored i)) (v.stored i) f s ≡ true = t.to_ghost f j w.3 l w.4 in
            let back : neighbour_of s (face_of (v.stored i) f) ≡ v.first + i = leads-back (number_of (v.stored i)) (v.stored i) f s ok ∙ eqb-true _ _ (right_number i t) in
            any_intro (face_count (shape_of s)) (neighbour_in v.first (v.first + v.n) s) (face_of (v.stored i) f) (face_there (number_of (v.stored i)) (v.stored i) f s ok)
            (rw (back, le-leb v.first (v.first + i) (omega arith), lt-ltb (v.first + i) (v.first + v.n) (omega (arith, w.2))))

        pub right_ghost : ((i : ℕ) → i < v.n → TreeRight v i) → j < v.g → ghost_stored link_between v.first v.n looked v.stored v.ghost v.dimension v.K j ≡ true
        unfolding ghost_stored ghost_face
        right_ghost trees l =
            and_intro (in_form_lem && shape && near) (all_below (face_count (shape_of s)) (λ f. to f (neighbour_of s f)))
            (and_intro (in_form_lem && shape) near (and_intro in_form_lem shape (and_fst in_form_lem (ghost_ascends v j) (form-after looked j right)) right-shape) (right_near trees l))
            (all_intro (face_count (shape_of s)) (λ f. to f (neighbour_of s f)) right-face)

  -- ---- the ghosts that are looked up

  order_is : (j : ℕ) → ghost_order_in v j ≡ ordered j
  unfolding ghost_order_in ghost_ascends ghost_numbered ghost_behind in_range
  order_is j = refl

  found-ordered : (m : ℕ) → m < found_in v → ordered m ≡ true
  unfolding found_in
  found-ordered m h = sym (order_is m) ∙ not-false _ (least_below_lem v.g (λ j. not (ghost_order_in v j)) m h)

  pub quiet_ghost : (j : ℕ) → (ghost_wrong_in v j).kind ≡ 0 → GhostRight v (found_in v) j
  quiet_ghost j e =
      let stored : Bool = ghost_stored link_between v.first v.n (found_in v) v.stored v.ghost v.dimension v.K j in
      let both : (ordered j && stored) ≡ true = sym (ghost_right v j) ∙ eq-eqb (ghost_wrong_in v j).kind 0 e in
      ghost_clauses (found_in v) found-ordered j (and_fst (ordered j) stored both) (and_snd (ordered j) stored both)

  pub looked_all : ((j : ℕ) → j < v.g → ghost_order_in v j ≡ true) → found_in v ≡ v.g
  looked_all all = found_all v (all_intro v.g ordered (λ j h. sym (order_is j) ∙ all j h))

  -- ---- all records

  abbrev trees_numbered : Bool
  trees_numbered = all_below v.n (tree_numbered v.first v.stored)

  abbrev ghosts_numbered : Bool
  ghosts_numbered = all_below v.g ordered

  abbrev trees_stored : Bool
  trees_stored = all_below v.n (tree_stored link_between v.n v.g v.stored v.ghost v.dimension)

  abbrev ghosts_stored : Bool
  ghosts_stored = all_below v.g (ghost_stored link_between v.first v.n v.g v.stored v.ghost v.dimension v.K)

  module _ (e : records_sound link_between v.first v.n v.g v.stored v.ghost v.dimension v.K ≡ true) where
    numbers : (trees_numbered && ghosts_numbered) ≡ true
    unfolding records_sound numbers_sound
    numbers = and_fst (trees_numbered && ghosts_numbered) (trees_stored && ghosts_stored) e

    records : (trees_stored && ghosts_stored) ≡ true
    unfolding records_sound numbers_sound
    records = and_snd (trees_numbered && ghosts_numbered) (trees_stored && ghosts_stored) e

    all-ordered : (j : ℕ) → j < v.g → ordered j ≡ true
    all-ordered = all_at v.g ordered (and_snd trees_numbered ghosts_numbered numbers)

    pub sound_trees : (i : ℕ) → i < v.n → TreeRight v i
    sound_trees i h =
        tree_clauses i (all_at v.n (tree_numbered v.first v.stored) (and_fst trees_numbered ghosts_numbered numbers) i h)
        (all_at v.n (tree_stored link_between v.n v.g v.stored v.ghost v.dimension) (and_fst trees_stored ghosts_stored records) i h)

    pub sound_ghosts : (j : ℕ) → j < v.g → GhostRight v v.g j
    sound_ghosts j h =
        ghost_clauses v.g all-ordered j (all-ordered j h)
        (all_at v.g (ghost_stored link_between v.first v.n v.g v.stored v.ghost v.dimension v.K) (and_snd trees_stored ghosts_stored records) j h)

  pub right_sound : ((i : ℕ) → i < v.n → TreeRight v i) → ((j : ℕ) → j < v.g → GhostRight v v.g j)
      → records_sound link_between v.first v.n v.g v.stored v.ghost v.dimension v.K ≡ true
  unfolding records_sound numbers_sound
  right_sound trees ghosts =
      let order : (j : ℕ) → j < v.g → ordered j ≡ true = λ j h. right-order v.g j (ghosts j h) in
      and_intro (trees_numbered && ghosts_numbered) (trees_stored && ghosts_stored)
      (and_intro trees_numbered ghosts_numbered (all_intro v.n (tree_numbered v.first v.stored) (λ i h. right_number i (trees i h))) (all_intro v.g ordered order))
      (and_intro trees_stored ghosts_stored
      (all_intro v.n (tree_stored link_between v.n v.g v.stored v.ghost v.dimension) (λ i h. right_tree i (trees i h)))
      (all_intro v.g (ghost_stored link_between v.first v.n v.g v.stored v.ghost v.dimension v.K) (λ j h. right_ghost v.g order j (ghosts j h) trees h)))

-- ---- a part with a sound header

part_passes : (s : Bool) → cond {A = ℕ} s 0 8 ≡ 0 → s ≡ true
part_passes true e = refl
part_passes false e = absurd (omega arith)

module _ (part table : List ℕ) (rank : ℕ) (ok : first_failed (rank_checks table rank) ≡ 0) where
  refusal_is : part_refusal part table rank ≡ cond (part_sound part table rank) 0 8
  unfolding part_refusal first_failed
  refusal_is = rank_passes table rank refl ok _

  module _ (bytes : Bytes part) (table_bytes_lem : Bytes table) (headed : part_headed part table rank ≡ true) where
    abbrev w : View
    w = view_of part

    sound-is : part_sound part table rank ≡ records_sound link_between w.first w.n w.g w.stored w.ghost w.dimension w.K
    sound-is = sym (part_right part table rank bytes table_bytes_lem (rank_known table rank refl ok) headed) ∙ records_right w

    accepted_sound : part_refusal part table rank ≡ 0 → records_sound link_between w.first w.n w.g w.stored w.ghost w.dimension w.K ≡ true
    accepted_sound e = sym sound-is ∙ part_passes (part_sound part table rank) (sym refusal_is ∙ e)

    right-means : RightMeans part table rank
    right-means =
        record {
          trees = λ e. sound_trees w (accepted_sound e);
          ghosts = λ e. sound_ghosts w (accepted_sound e);
          sound = λ t g. refusal_is ∙ rw (sound-is ∙ right_sound w t g);
        }

pub right_is_sound : RightIsSound
right_is_sound part table rank bytes table_bytes_lem ok headed = right-means part table rank ok bytes table_bytes_lem headed
