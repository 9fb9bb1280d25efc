-- Links looked at from one end: the records by local index, trees first. Where each link down obeys the rules and as many links lead up as down, all links obey them. A part's trees and an area's are cases: a tree's record has local indices there, global numbers here.
use Prim.Native.Nat.{ℕ, ◌+◌, ◌-◌, ◌≤◌, ◌<◌}
use native.Mathlib.Nat.{add-sub_cancel_left}
use native.Mathlib.Omega.{arith}
use mathlib.Core.Path.{◌≡◌, refl, sym, ap, ap₂, ◌∙◌}
use mathlib.Core.Bool.{Bool, true, false, cond, not, ◌&&◌, ◌||◌, and-false}
use mathlib.Core.List.{List}
use lib.Dec.{leb, ltb, eqb}
use borrow.Author.Tests.{ltb-true, leb-true, lt-ltb, le-ltb, le-leb, eqb-true, eqb-false, eq-eqb, ne_eqb}
use Rattle.encoding.specs.Below.{all_below, any_below, count_below, least_below, sum_below}
use Rattle.encoding.proofs.Below.{tests, either, clash, and_fst, and_snd, and_intro, iff_eq, all_at, all_intro, any_intro, sum_same, sum_add, count_same, least_is, least_lt, least_at}
use Rattle.records.specs.Shape.{dimension_of, face_count}
use Rattle.records.specs.Record.{number_of, shape_of, neighbour_of, face_of, to_itself, boundary_ok, in_form}
use Rattle.records.proofs.Shapes.{count_six}
use Rattle.records.proofs.Forms.{face_six, form_used}
use Rattle.mesh.specs.Link.{orientation_ok, same_corners, answered}
use Rattle.mesh.specs.Means.{link_between, link_by_dimension}
use Rattle.mesh.proofs.ByDimension.{Fits, AllFit, fits_form, link_same, link_turns}
use Rattle.mesh.proofs.OneEnd.{Obeys, Turns, as_many, ups_obey}
use Rattle.part.specs.Means.{in_range, neighbour_in, ghost_has}
use Rattle.ghost_links.specs.Means.{form_alone, ghost_up, ghost_down, ghost_listed, ghost_ups, ghost_downs, ghost_low, ghost_answered, ghost_face_down, ghost_from_one_end}
use Rattle.ghost_links.proofs.Forms.{alone_from, alone_form, alone_fits}

or_snd : (a b : Bool) → a ≡ false → (a || b) ≡ true → b ≡ true
or_snd true b h e = clash refl h
or_snd false b h e = e

or_left : (a b : Bool) → a ≡ true → (a || b) ≡ true
or_left a b h = rw h

or_right : (a b : Bool) → b ≡ true → (a || b) ≡ true
or_right true b h = refl
or_right false b h = h

not_is : (b : Bool) → not b ≡ true → b ≡ false
not_is true e = sym e
not_is false e = refl

-- of two tests, with further ones
sides : (a b c d : Bool) → ((a || (b && c)) || (b && d)) ≡ true → (a || b) ≡ true
sides true b c d e = refl
sides false true c d e = refl
sides false false c d e = e

-- a link to another record is no boundary
pub boundary_other : (own : ℕ) (r : List ℕ) (f : ℕ) → (neighbour_of r f ≡ own → ⊥) → boundary_ok own r f ≡ true
unfolding boundary_ok to_itself
boundary_other own r f h = rw (ne_eqb (neighbour_of r f) own h)

-- a link that obeys the rule has an orientation below the corners
oriented : (D : ℕ) (r s : List ℕ) → Fits D r → Fits D s → (back f : ℕ) → f < face_count (shape_of r) → link_by_dimension D back r f s ≡ true → orientation_ok r f ≡ true
unfolding link_between
oriented D r s a b back f h e =
    and_fst (orientation_ok r f) (same_corners r f s) (and_fst (orientation_ok r f && same_corners r f s) (answered back r f s) (sym (link_same D r s a b back f h) ∙ e))

-- ---- the range, and ghosts by their numbers

module _ (first n : ℕ) where
  pub range_tree : (i : ℕ) → i < n → in_range first (first + n) (first + i) ≡ true
  unfolding in_range
  range_tree i h = rw (le-leb first (first + i) (omega arith), lt-ltb (first + i) (first + n) (omega arith))

  pub range_both : (k : ℕ) → in_range first (first + n) k ≡ true → (first ≤ k) × (k < first + n)
  unfolding in_range
  range_both k e = (leb-true first k (and_fst (leb first k) (ltb k (first + n)) e), ltb-true k (first + n) (and_snd (leb first k) (ltb k (first + n)) e))

module _ (g : ℕ) (ghostly : ℕ → List ℕ) where
  -- a ghost has its own number
  has : (m : ℕ) → m < g → any_below g (ghost_has ghostly (number_of (ghostly m))) ≡ true
  unfolding ghost_has
  has m h = any_intro g (ghost_has ghostly (number_of (ghostly m))) m h (eq-eqb (number_of (ghostly m)) (number_of (ghostly m)) refl)

  -- where they ascend, its position is found by it
  pub position : ((i j : ℕ) → i < j → j < g → number_of (ghostly i) < number_of (ghostly j)) → (m : ℕ) → m < g → least_below g (ghost_has ghostly (number_of (ghostly m))) ≡ m
  unfolding ghost_has
  position ascends m h =
      least_is g (ghost_has ghostly (number_of (ghostly m))) m h (eq-eqb (number_of (ghostly m)) (number_of (ghostly m)) refl)
      (λ j l. ne_eqb (number_of (ghostly j)) (number_of (ghostly m)) (λ e. omega (arith, ascends j m l h)))

  -- the ghost that is found by a number has it
  pub there_number : (k : ℕ) → any_below g (ghost_has ghostly k) ≡ true → number_of (ghostly (least_below g (ghost_has ghostly k))) ≡ k
  unfolding ghost_has
  there_number k held = eqb-true _ _ (least_at g (ghost_has ghostly k) held)

-- ---- the records

-- n trees from first on and g ghosts, K numbers in all. A tree's record has `name b` for the record with local index b; `place` leads back from there

-- the link of face f of tree i leads up or down
module _ (n : ℕ) (tree : ℕ → List ℕ) (place : ℕ → ℕ) where
  unfoldable pub up_tree : ℕ → ℕ → Bool
  up_tree i f = ltb i (place (neighbour_of (tree i) f)) && ltb (place (neighbour_of (tree i) f)) n

  unfoldable pub down_tree : ℕ → ℕ → Bool
  down_tree i f = not (up_tree i f) && not (eqb (place (neighbour_of (tree i) f)) i)

module _ (link : ℕ → List ℕ → ℕ → List ℕ → Bool) (first n g : ℕ) (tree ghostly : ℕ → List ℕ) (name : ℕ → ℕ) where
  -- the rules of the link of face f of tree i to the record with local index b
  unfoldable pub tree_rule_to : ℕ → ℕ → ℕ → Bool
  tree_rule_to i f b =
      cond (ltb b n) (link (name i) (tree i) f (tree b))
      (cond (ltb (b - n) g) (link (first + i) (tree i) f (ghostly (b - n))) false)

  unfoldable pub tree_rule : (ℕ → ℕ) → ℕ → ℕ → Bool
  tree_rule place i f = tree_rule_to i f (place (neighbour_of (tree i) f))

  -- and of face f of ghost j to number k
  unfoldable pub ghost_rule_to : ℕ → ℕ → ℕ → ℕ → Bool
  ghost_rule_to K j f k =
      cond (in_range first (first + n) k) (link (name (n + j)) (ghostly j) f (tree (k - first)))
      (cond (any_below g (ghost_has ghostly k)) (link (number_of (ghostly j)) (ghostly j) f (ghostly (least_below g (ghost_has ghostly k))))
      (ltb k K && orientation_ok (ghostly j) f))

  unfoldable pub ghost_rule : ℕ → ℕ → ℕ → Bool
  ghost_rule K j f = ghost_rule_to K j f (neighbour_of (ghostly j) f)

  -- ghost j, its number apart
  unfoldable pub ghost_whole : ℕ → ℕ → ℕ → Bool
  ghost_whole K dimension j =
      in_form (number_of (ghostly j)) (ghostly j) && eqb (dimension_of (shape_of (ghostly j))) dimension
      && any_below (face_count (shape_of (ghostly j))) (neighbour_in first (first + n) (ghostly j)) && all_below (face_count (shape_of (ghostly j))) (ghost_rule K j)

-- what is known of numbers, names and places
pub record Numbers (first n g K : ℕ) (ghostly : ℕ → List ℕ) (name place : ℕ → ℕ) : Type 0 where
  pub within : first + n ≤ K
  pub below : (j : ℕ) → j < g → number_of (ghostly j) < K
  pub outside : (j : ℕ) → j < g → in_range first (first + n) (number_of (ghostly j)) ≡ false
  pub ascends : (i j : ℕ) → i < j → j < g → number_of (ghostly i) < number_of (ghostly j)
  pub placed : (b : ℕ) → b < n + g → place (name b) ≡ b
  pub named : (v : ℕ) → place v < n + g → name (place v) ≡ v

module _ (D first n g K : ℕ) (tree ghostly : ℕ → List ℕ) (name place : ℕ → ℕ) (known : Numbers first n g K ghostly name place) where
  abbrev rule_of_tree : ℕ → ℕ → Bool
  rule_of_tree = tree_rule (link_by_dimension D) first n g tree ghostly name place

  abbrev rule_of_ghost : ℕ → ℕ → Bool
  rule_of_ghost = ghost_rule (link_by_dimension D) first n g tree ghostly name K

  abbrev tree_up : ℕ → ℕ → Bool
  tree_up = up_tree n tree place

  abbrev tree_down : ℕ → ℕ → Bool
  tree_down = down_tree n tree place

  -- the ghost with a number that is held
  module _ (k : ℕ) (held : any_below g (ghost_has ghostly k) ≡ true) where
    abbrev there : ℕ
    there = least_below g (ghost_has ghostly k)

    there-below : there < g
    there-below = least_lt g (ghost_has ghostly k) held

    held-outside : in_range first (first + n) k ≡ false
    held-outside = rw (sym (there_number g ghostly k held)) (known.outside there there-below)

    held_below_lem : k < K
    held_below_lem = omega (arith, there_number g ghostly k held, known.below there there-below)

  -- among ghosts, positions and numbers are ordered alike
  ordered : (p m : ℕ) → p < g → m < g → ltb (number_of (ghostly p)) (number_of (ghostly m)) ≡ ltb p m
  ordered p m h l =
      iff_eq (ltb (number_of (ghostly p)) (number_of (ghostly m))) (ltb p m)
      (λ e. either (ltb p m) (λ q. q) (λ q. either (ltb m p)
      (λ s. absurd (omega (tests, known.ascends m p (ltb-true _ _ s) h)))
      (λ s. let same : p ≡ m = omega tests in absurd (omega (tests, ap (λ (i : ℕ). number_of (ghostly i)) same)))))
      (λ e. lt-ltb _ _ (known.ascends p m (ltb-true _ _ e) l))

  -- ---- records by local index

  abbrev record_at : ℕ → List ℕ
  record_at a = cond (ltb a n) (tree a) (ghostly (a - n))

  abbrev number_at : ℕ → ℕ
  number_at a = cond (ltb a n) (first + a) (number_of (ghostly (a - n)))

  -- record a has this for its neighbour b
  abbrev stored : ℕ → ℕ → ℕ
  stored a b = cond (ltb a n) (name b) (number_at b)

  abbrev place_of : ℕ → ℕ
  place_of k = cond (in_range first (first + n) k) (k - first) (n + least_below g (ghost_has ghostly k))

  abbrev to : ℕ → ℕ → ℕ
  to a f = cond (ltb a n) (place (neighbour_of (tree a) f)) (place_of (neighbour_of (ghostly (a - n)) f))

  abbrev across : ℕ → ℕ → ℕ
  across a f = face_of (record_at a) f

  abbrev faces_at : ℕ → ℕ
  faces_at a = face_count (shape_of (record_at a))

  abbrev rule : ℕ → ℕ → Bool
  rule a f = cond (ltb a n) (rule_of_tree a f) (rule_of_ghost (a - n) f)

  abbrev up : ℕ → ℕ → Bool
  up a f = cond (ltb a n) (tree_up a f) (ghost_up first n g ghostly (a - n) f)

  abbrev down : ℕ → ℕ → Bool
  down a f = cond (ltb a n) (tree_down a f) (ghost_down g ghostly (a - n) f)

  -- ghosts below all trees
  abbrev order : ℕ → ℕ
  order a = cond (ltb a n) (g + a) (a - n)

  -- the link of face f of record a leads to record b and obeys the rule
  record Meets (a f b : ℕ) : Type 0 where
    pub below : b < n + g
    pub leads : neighbour_of (record_at a) f ≡ stored a b
    pub obeys : link_by_dimension D (stored b a) (record_at a) f (record_at b) ≡ true

  -- a record is a tree or a ghost
  by_kind : (P : ℕ → Type 0) → ((i : ℕ) → i < n → P i) → ((m : ℕ) → m < g → P (n + m)) → (a : ℕ) → a < n + g → P a
  by_kind P trees ghosts a h =
      either (ltb a n) (λ e. trees a (ltb-true a n e)) (λ e. let same : a ≡ n + (a - n) = omega tests in rw same (ghosts (a - n) (omega tests)))

  past : (m : ℕ) → ltb (n + m) n ≡ false
  past m = le-ltb (n + m) n (omega arith)

  -- ---- a link by its record, and the other way round

  tree-meets : (i f : ℕ) → i < n → rule_of_tree i f ≡ true → Meets i f (place (neighbour_of (tree i) f))
  unfolding tree_rule tree_rule_to
  tree-meets i f h e =
      let j : ℕ = place (neighbour_of (tree i) f) in
      either (ltb j n)
      (λ p. let less : j < n + g = omega tests in record { below = less; leads = rw (lt-ltb i n h) (sym (known.named _ less)); obeys = rw (lt-ltb i n h, p) (rw p at e) })
      (λ p. either (ltb (j - n) g)
      (λ q. let less : j < n + g = omega tests in record { below = less; leads = rw (lt-ltb i n h) (sym (known.named _ less)); obeys = rw (lt-ltb i n h, p) (rw (p, q) at e) })
      (λ q. clash e (rw (p, q))))

  meets-tree : (i f b : ℕ) → i < n → Meets i f b → (place (neighbour_of (tree i) f) ≡ b) × (rule_of_tree i f ≡ true)
  unfolding tree_rule tree_rule_to
  meets-tree i f b h m =
      let leads : neighbour_of (tree i) f ≡ name b = rw (lt-ltb i n h) at m.leads in
      let there : place (neighbour_of (tree i) f) ≡ b = ap place leads ∙ known.placed b m.below in (
        there,
        rw there
            (either (ltb b n) (λ p. rw p (rw (lt-ltb i n h, p) at m.obeys))
            (λ p. rw (p, lt-ltb (b - n) g (omega (tests, m.below))) (rw (lt-ltb i n h, p) at m.obeys))),
      )

  ghost-meets : (m f : ℕ) → m < g → (in_range first (first + n) (neighbour_of (ghostly m) f) || any_below g (ghost_has ghostly (neighbour_of (ghostly m) f))) ≡ true
      → rule_of_ghost m f ≡ true → Meets (n + m) f (place_of (neighbour_of (ghostly m) f))
  unfolding ghost_rule ghost_rule_to
  ghost-meets m f h s e =
      let k : ℕ = neighbour_of (ghostly m) f in
      either (in_range first (first + n) k)
      (λ p.
      let b = range_both first n k p in
      let inside : k - first < n = omega (arith, b.0, b.1) in
      let q : ltb (k - first) n ≡ true = lt-ltb _ _ inside in
      record {
        below = rw p (omega arith);
        leads = rw (past m, add-sub_cancel_left n m, p, q) (omega (arith, b.0));
        obeys = rw (past m, add-sub_cancel_left n m, p, q) (rw p at e);
      })
      (λ p.
      let q = or_snd (in_range first (first + n) k) (any_below g (ghost_has ghostly k)) p s in
      let t : ℕ = least_below g (ghost_has ghostly k) in
      record {
        below = rw p (omega (arith, there-below k q));
        leads = rw (past m, add-sub_cancel_left n m, p, past t, add-sub_cancel_left n t) (sym (there_number g ghostly k q));
        obeys = rw (past m, add-sub_cancel_left n m, p, past t, add-sub_cancel_left n t) (rw (p, q) at e);
      })

  meets-ghost : (m f : ℕ) → m < g → (b : ℕ) → Meets (n + m) f b → (place_of (neighbour_of (ghostly m) f) ≡ b) × (rule_of_ghost m f ≡ true)
  unfolding ghost_rule ghost_rule_to
  meets-ghost m f h b w =
      by_kind (λ b. Meets (n + m) f b → (place_of (neighbour_of (ghostly m) f) ≡ b) × (rule_of_ghost m f ≡ true))
      (λ i l v.
      let leads : neighbour_of (ghostly m) f ≡ first + i = rw (past m, add-sub_cancel_left n m, lt-ltb i n l) at v.leads in (
        rw (leads, range_tree first n i l, add-sub_cancel_left first i),
        rw (leads, range_tree first n i l, add-sub_cancel_left first i) (rw (past m, add-sub_cancel_left n m, lt-ltb i n l) at v.obeys),
      ))
      (λ p l v.
      let leads : neighbour_of (ghostly m) f ≡ number_of (ghostly p) = rw (past m, add-sub_cancel_left n m, past p, add-sub_cancel_left n p) at v.leads in (
        rw (leads, known.outside p l, position g ghostly known.ascends p l),
        rw (leads, known.outside p l, has g ghostly p l, position g ghostly known.ascends p l) (rw (past m, add-sub_cancel_left n m, past p, add-sub_cancel_left n p) at v.obeys),
      ))
      b w.below w

  -- ---- up and down by the order

  tree-order : (i f : ℕ) → i < n → (b : ℕ) → place (neighbour_of (tree i) f) ≡ b → b < n + g → (tree_up i f ≡ ltb (g + i) (order b)) × (tree_down i f ≡ ltb (order b) (g + i))
  unfolding up_tree down_tree
  tree-order i f h b e l =
      rw e
      (either (ltb b n)
      (λ p. either (ltb i b)
      (λ q. (rw (p, q) (sym (lt-ltb (g + i) (g + b) (omega tests))), rw (p, q) (sym (le-ltb (g + b) (g + i) (omega tests)))))
      (λ q. (
        rw (p, q) (sym (le-ltb (g + i) (g + b) (omega tests))),
        rw (p, q)
            (iff_eq (not (eqb b i)) (ltb (g + b) (g + i)) (λ s. lt-ltb (g + b) (g + i) (omega (tests, eqb-false b i (not_is (eqb b i) s)))) (λ s. let other : eqb b i ≡ false = ne_eqb b i (λ w. omega tests) in rw other)),
      )))
      (λ p.
      let other : eqb b i ≡ false = ne_eqb b i (λ w. omega tests) in
      (rw (p, and-false) (sym (le-ltb (g + i) (b - n) (omega tests))), rw (p, and-false, other) (sym (lt-ltb (b - n) (g + i) (omega tests))))))

  ghost-order : (m f : ℕ) → m < g → (b : ℕ) → b < n + g → neighbour_of (ghostly m) f ≡ number_at b → (ghost_up first n g ghostly m f ≡ ltb m (order b)) × (ghost_down g ghostly m f ≡ ltb (order b) m)
  unfolding ghost_up ghost_down
  ghost-order m f h =
      by_kind (λ b. neighbour_of (ghostly m) f ≡ number_at b → (ghost_up first n g ghostly m f ≡ ltb m (order b)) × (ghost_down g ghostly m f ≡ ltb (order b) m))
      (λ i l e.
      let leads : neighbour_of (ghostly m) f ≡ first + i = rw (lt-ltb i n l) at e in
      let none : any_below g (ghost_has ghostly (first + i)) ≡ false = either (any_below g (ghost_has ghostly (first + i))) (λ q. clash (range_tree first n i l) (held-outside (first + i) q)) (λ q. q) in
      (rw (leads, range_tree first n i l, lt-ltb i n l) (sym (lt-ltb m (g + i) (omega arith))), rw (leads, none, lt-ltb i n l) (sym (le-ltb (g + i) m (omega arith)))))
      (λ p l e.
      let leads : neighbour_of (ghostly m) f ≡ number_of (ghostly p) = rw (past p, add-sub_cancel_left n p) at e in
      (rw (leads, known.outside p l, has g ghostly p l, past p, add-sub_cancel_left n p) (ordered m p h l), rw (leads, has g ghostly p l, past p, add-sub_cancel_left n p) (ordered p m l h)))

  -- ---- all records

  -- a link that obeys the rule, where it leads up or down
  rule-meets : (a : ℕ) → a < n + g → (f : ℕ) → (up a f || down a f) ≡ true → rule a f ≡ true → Meets a f (to a f)
  unfolding ghost_up ghost_down
  rule-meets =
      by_kind (λ a. (f : ℕ) → (up a f || down a f) ≡ true → rule a f ≡ true → Meets a f (to a f))
      (λ i h f s e. rw (lt-ltb i n h) (tree-meets i f h (rw (lt-ltb i n h) at e)))
      (λ m h f s e. rw (past m, add-sub_cancel_left n m) (ghost-meets m f h (sides (in_range first (first + n) (neighbour_of (ghostly m) f)) (any_below g (ghost_has ghostly (neighbour_of (ghostly m) f))) _ _ (rw (past m, add-sub_cancel_left n m) at s)) (rw (past m, add-sub_cancel_left n m) at e)))

  -- and what a link that leads to b is
  meets-all : (a : ℕ) → a < n + g → (f b : ℕ) → Meets a f b → (to a f ≡ b) × (rule a f ≡ true) × (up a f ≡ ltb (order a) (order b)) × (down a f ≡ ltb (order b) (order a))
  meets-all =
      by_kind (λ a. (f b : ℕ) → Meets a f b → (to a f ≡ b) × (rule a f ≡ true) × (up a f ≡ ltb (order a) (order b)) × (down a f ≡ ltb (order b) (order a)))
      (λ i h f b w.
      let m = meets-tree i f b h w in
      let o = tree-order i f h b m.0 w.below in
      rw (lt-ltb i n h) (m.0, m.1, o.0, o.1))
      (λ j h f b w.
      let m = meets-ghost j f h b w in
      let o = ghost-order j f h b w.below (rw (past j, add-sub_cancel_left n j) at w.leads) in
      rw (past j, add-sub_cancel_left n j) (m.0, m.1, o.0, o.1))

  -- where all records have the dimension
  module _ (fits : AllFit D n g tree ghostly) where
    fits-at : (a : ℕ) → a < n + g → Fits D (record_at a)
    fits-at = by_kind (λ a. Fits D (record_at a)) (λ i h. rw (lt-ltb i n h) (fits.0 i h)) (λ m h. rw (past m, add-sub_cancel_left n m) (fits.1 m h))

    turned : (a f b : ℕ) → a < n + g → f < faces_at a → Meets a f b → (across a f < faces_at b) × (across b (across a f) ≡ f) × Meets b (across a f) a
    turned a f b h face m =
        let t = link_turns D (record_at a) (record_at b) (fits-at a h) (fits-at b m.below) (stored b a) f face m.obeys in
        (t.0, t.2, record { below = h; leads = t.1; obeys = rw m.leads at t.3 })

    turn_up : Turns (n + g) faces_at to across rule up down
    turn_up a f h face e ok =
        let m = rule-meets a h f (or_left (up a f) (down a f) e) ok in
        let t = turned a f (to a f) h face m in
        let here = meets-all a h f (to a f) m in
        let there = meets-all (to a f) m.below (across a f) a t.2 in
        (m.below, t.0, there.0, t.1, there.1, there.3 ∙ sym here.2 ∙ e)

    turn-down : Turns (n + g) faces_at to across rule down up
    turn-down a f h face e ok =
        let m = rule-meets a h f (or_right (up a f) (down a f) e) ok in
        let t = turned a f (to a f) h face m in
        let here = meets-all a h f (to a f) m in
        let there = meets-all (to a f) m.below (across a f) a t.2 in
        (m.below, t.0, there.0, t.1, there.1, there.2 ∙ sym here.3 ∙ e)

  few : (a : ℕ) → faces_at a ≤ 6
  few a = count_six (shape_of (record_at a))

  low : (a f : ℕ) → across a f < 6
  low a f = face_six (record_at a) f

  abbrev faces : List ℕ → ℕ
  faces r = face_count (shape_of r)

  -- how many links of a tree lead up and down
  abbrev tree_ups : ℕ → ℕ
  tree_ups i = count_below (face_count (shape_of (tree i))) (tree_up i)

  abbrev tree_downs : ℕ → ℕ
  tree_downs i = count_below (face_count (shape_of (tree i))) (tree_down i)

  -- as many lead up as down
  abbrev Even : Type 0
  Even = sum_below n tree_ups + sum_below g (ghost_ups first n g ghostly) ≡ sum_below n tree_downs + sum_below g (ghost_downs g ghostly)

  -- the sums over trees and over ghosts
  sum-ups : sum_below (n + g) (λ a. count_below (faces_at a) (up a)) ≡ sum_below n tree_ups + sum_below g (ghost_ups first n g ghostly)
  unfolding ghost_ups
  sum-ups =
      sum_add n g (λ a. count_below (faces_at a) (up a))
      ∙ ap₂ (λ (x y : ℕ). x + y)
      (sum_same n (λ a. count_below (faces_at a) (up a)) tree_ups (λ i h. count_same (faces_at i) (up i) (tree_up i) (λ f l. rw (lt-ltb i n h)) ∙ rw (lt-ltb i n h)))
      (sum_same g (λ m. count_below (faces_at (n + m)) (up (n + m))) (ghost_ups first n g ghostly) (λ m h. count_same (faces_at (n + m)) (up (n + m)) (ghost_up first n g ghostly m) (λ f l. rw (past m, add-sub_cancel_left n m)) ∙ rw (past m, add-sub_cancel_left n m)))

  sum-downs : sum_below (n + g) (λ a. count_below (faces_at a) (down a)) ≡ sum_below n tree_downs + sum_below g (ghost_downs g ghostly)
  unfolding ghost_downs
  sum-downs =
      sum_add n g (λ a. count_below (faces_at a) (down a))
      ∙ ap₂ (λ (x y : ℕ). x + y)
      (sum_same n (λ a. count_below (faces_at a) (down a)) tree_downs (λ i h. count_same (faces_at i) (down i) (tree_down i) (λ f l. rw (lt-ltb i n h)) ∙ rw (lt-ltb i n h)))
      (sum_same g (λ m. count_below (faces_at (n + m)) (down (n + m))) (ghost_downs g ghostly) (λ m h. count_same (faces_at (n + m)) (down (n + m)) (ghost_down g ghostly m) (λ f l. rw (past m, add-sub_cancel_left n m)) ∙ rw (past m, add-sub_cancel_left n m)))

  -- a ghost's link to a ghost, by the rule
  face-held : (j f : ℕ) → any_below g (ghost_has ghostly (neighbour_of (ghostly j) f)) ≡ true
      → rule_of_ghost j f
      ≡ link_by_dimension D (number_of (ghostly j)) (ghostly j) f (ghostly (least_below g (ghost_has ghostly (neighbour_of (ghostly j) f))))
  unfolding ghost_rule ghost_rule_to
  face-held j f h = rw (held-outside (neighbour_of (ghostly j) f) h, h)

  -- ---- where all links obey the rules

  module _ (treesFit : (i : ℕ) → i < n → Fits D (tree i)) (trees : (i : ℕ) → i < n → (f : ℕ) → f < faces (tree i) → rule_of_tree i f ≡ true)
      (ghosts : (j : ℕ) → j < g → ghost_whole (link_by_dimension D) first n g tree ghostly name K D j ≡ true) where
    module _ (j : ℕ) (h : j < g) where
      ghost-parts : ((in_form (number_of (ghostly j)) (ghostly j) && eqb (dimension_of (shape_of (ghostly j))) D) ≡ true) × (any_below (faces (ghostly j)) (neighbour_in first (first + n) (ghostly j)) ≡ true)
          × (all_below (faces (ghostly j)) (rule_of_ghost j) ≡ true)
      unfolding ghost_whole
      ghost-parts =
          let a : Bool = in_form (number_of (ghostly j)) (ghostly j) && eqb (dimension_of (shape_of (ghostly j))) D in
          let b : Bool = any_below (faces (ghostly j)) (neighbour_in first (first + n) (ghostly j)) in
          (and_fst a b (and_fst (a && b) _ (ghosts j h)), and_snd a b (and_fst (a && b) _ (ghosts j h)), and_snd (a && b) _ (ghosts j h))

      ghost-formed : in_form (number_of (ghostly j)) (ghostly j) ≡ true
      ghost-formed = and_fst (in_form (number_of (ghostly j)) (ghostly j)) _ ghost-parts.0

    all_fit : AllFit D n g tree ghostly
    all_fit = (treesFit, λ j h. fits_form D (number_of (ghostly j)) (ghostly j) (ghost-parts j h).0)

    ghost-face : (j f : ℕ) → j < g → f < faces (ghostly j) → rule_of_ghost j f ≡ true
    ghost-face j f h face = all_at (faces (ghostly j)) (rule_of_ghost j) (ghost-parts j h).2 f face

    ghost_low_lem : (j f : ℕ) → j < g → f < faces (ghostly j) → (neighbour_of (ghostly j) f < K) × (orientation_ok (ghostly j) f ≡ true)
    unfolding ghost_rule ghost_rule_to
    ghost_low_lem j f h face =
        let k : ℕ = neighbour_of (ghostly j) f in
        let e = ghost-face j f h face in
        either (in_range first (first + n) k)
        (λ p.
        let b = range_both first n k p in
        (omega (arith, b.1, known.within), oriented D (ghostly j) (tree (k - first)) (all_fit.1 j h) (all_fit.0 (k - first) (omega (arith, b.0, b.1))) (name (n + j)) f face (rw p at e)))
        (λ p. either (any_below g (ghost_has ghostly k))
        (λ q. (held_below_lem k q, oriented D (ghostly j) (ghostly (least_below g (ghost_has ghostly k))) (all_fit.1 j h) (all_fit.1 _ (there-below k q)) (number_of (ghostly j)) f face (rw (p, q) at e)))
        (λ q. let both : (ltb k K && orientation_ok (ghostly j) f) ≡ true = rw (p, q) at e in (ltb-true _ _ (and_fst (ltb k K) _ both), and_snd (ltb k K) _ both)))

    pub ghost_passes : (j : ℕ) → j < g → ghost_from_one_end (link_by_dimension D) g ghostly first n D K j ≡ true
    unfolding ghost_from_one_end ghost_low ghost_face_down ghost_answered ghost_listed
    ghost_passes j h =
        let r = ghostly j in
        let beside : Bool = any_below (faces r) (neighbour_in first (first + n) r) in
        let lows : Bool = all_below (faces r) (ghost_low ghostly K j) in
        and_intro (form_alone D r && (lows && beside)) _
        (and_intro (form_alone D r) (lows && beside) (alone_from (number_of r) r D (ghost-formed j h) (and_snd (in_form (number_of r) r) _ (ghost-parts j h).0))
        (and_intro lows beside
        (all_intro (faces r) (ghost_low ghostly K j) (λ f face. let l = ghost_low_lem j f h face in and_intro (ltb (neighbour_of r f) K) _ (lt-ltb _ _ l.0) l.1))
        (ghost-parts j h).1))
        (all_intro (faces r) (ghost_face_down (link_by_dimension D) g ghostly j)
        (λ f face.
        let held : Bool = any_below g (ghost_has ghostly (neighbour_of r f)) in
        let lower : Bool = leb (neighbour_of r f) (number_of r) in
        either (held && lower)
        (λ p. rw p (and_intro (boundary_ok (number_of r) r f) _ (form_used (number_of r) r (ghost-formed j h) f face) (sym (face-held j f (and_fst held lower p)) ∙ ghost-face j f h face)))
        (λ p. rw p)))

    rule-all : (a : ℕ) → a < n + g → (f : ℕ) → f < faces_at a → rule a f ≡ true
    rule-all =
        by_kind (λ a. (f : ℕ) → f < faces_at a → rule a f ≡ true)
        (λ i h f face. rw (lt-ltb i n h) (trees i h f (rw (lt-ltb i n h) at face)))
        (λ j h f face. rw (past j, add-sub_cancel_left n j) (ghost-face j f h (rw (past j, add-sub_cancel_left n j) at face)))

    pub rules_even : Even
    rules_even =
        sym sum-ups ∙ as_many (n + g) faces_at to across rule few low up down (turn-down all_fit) (turn_up all_fit) (λ a f h face e. rule-all a h f face) (λ a f h face e. rule-all a h f face) ∙ sum-downs

  -- ---- where the check from one end passes

  module _ (treesFit : (i : ℕ) → i < n → Fits D (tree i)) (trees : (i : ℕ) → i < n → (f : ℕ) → f < faces (tree i) → tree_up i f ≡ false → rule_of_tree i f ≡ true)
      (ghosts : (j : ℕ) → j < g → ghost_from_one_end (link_by_dimension D) g ghostly first n D K j ≡ true) (same : Even) where
    module _ (j : ℕ) (h : j < g) where
      abbrev beside : Bool
      beside = any_below (faces (ghostly j)) (neighbour_in first (first + n) (ghostly j))

      abbrev lows : Bool
      lows = all_below (faces (ghostly j)) (ghost_low ghostly K j)

      ghost_seen_lem : (form_alone D (ghostly j) ≡ true) × (lows ≡ true) × (beside ≡ true) × (all_below (faces (ghostly j)) (ghost_face_down (link_by_dimension D) g ghostly j) ≡ true)
      unfolding ghost_from_one_end
      ghost_seen_lem =
          let a : Bool = form_alone D (ghostly j) in
          let first_two = and_fst (a && (lows && beside)) _ (ghosts j h) in
          let both = and_snd a (lows && beside) first_two in
          (and_fst a (lows && beside) first_two, and_fst lows beside both, and_snd lows beside both, and_snd (a && (lows && beside)) _ (ghosts j h))

      -- a link that is listed
      ghost-down : (f : ℕ) → f < faces (ghostly j) → ghost_listed g ghostly j f ≡ true
          → (boundary_ok (number_of (ghostly j)) (ghostly j) f ≡ true) × (rule_of_ghost j f ≡ true)
      unfolding ghost_face_down ghost_answered ghost_listed
      ghost-down f face p =
          let r = ghostly j in
          let both : ghost_answered (link_by_dimension D) g ghostly j f ≡ true =
          rw p at (all_at (faces r) (ghost_face_down (link_by_dimension D) g ghostly j) ghost_seen_lem.3 f face) in
          let held = and_fst (any_below g (ghost_has ghostly (neighbour_of r f))) _ p in
          (and_fst (boundary_ok (number_of r) r f) _ both, face-held j f held ∙ and_snd (boundary_ok (number_of r) r f) _ both)

    all-fitting : AllFit D n g tree ghostly
    all-fitting = (treesFit, λ j h. alone_fits 0 (ghostly j) D (ghost_seen_lem j h).0)

    tree-not-up : (i f : ℕ) → tree_down i f ≡ true → tree_up i f ≡ false
    unfolding down_tree
    tree-not-up i f e = not_is (tree_up i f) (and_fst (not (tree_up i f)) _ e)

    ghost-is-listed : (j f : ℕ) → ghost_down g ghostly j f ≡ true → ghost_listed g ghostly j f ≡ true
    unfolding ghost_down ghost_listed
    ghost-is-listed j f e =
        let held : Bool = any_below g (ghost_has ghostly (neighbour_of (ghostly j) f)) in
        let lower : neighbour_of (ghostly j) f < number_of (ghostly j) = ltb-true _ _ (and_snd held _ e) in
        and_intro held _ (and_fst held _ e) (le-leb (neighbour_of (ghostly j) f) (number_of (ghostly j)) (omega arith))

    downs : (a : ℕ) → a < n + g → (f : ℕ) → f < faces_at a → down a f ≡ true → rule a f ≡ true
    downs =
        by_kind (λ a. (f : ℕ) → f < faces_at a → down a f ≡ true → rule a f ≡ true)
        (λ i h f face e. rw (lt-ltb i n h) (trees i h f (rw (lt-ltb i n h) at face) (tree-not-up i f (rw (lt-ltb i n h) at e))))
        (λ j h f face e.
        rw (past j, add-sub_cancel_left n j) (ghost-down j h f (rw (past j, add-sub_cancel_left n j) at face) (ghost-is-listed j f (rw (past j, add-sub_cancel_left n j) at e))).1)

    ups : Obeys (n + g) faces_at to across rule up
    ups = ups_obey (n + g) faces_at to across rule few low up down (turn-down all-fitting) (λ a f h face e. downs a h f face e) (sum-ups ∙ same ∙ sym sum-downs)

    pub tree_obeys : (i : ℕ) → i < n → (f : ℕ) → f < faces (tree i) → rule_of_tree i f ≡ true
    tree_obeys i h f face =
        either (tree_up i f) (λ e. rw (lt-ltb i n h) at (ups i f (omega arith) (rw (lt-ltb i n h) face) (rw (lt-ltb i n h) e))) (λ e. trees i h f face e)

    -- a ghost's link to itself is listed
    own-listed : (j f : ℕ) → j < g → neighbour_of (ghostly j) f ≡ number_of (ghostly j) → ghost_listed g ghostly j f ≡ true
    unfolding ghost_listed
    own-listed j f h e = rw (e, has g ghostly j h) (le-leb (number_of (ghostly j)) (number_of (ghostly j)) (omega arith))

    ghost-up : (j f : ℕ) → j < g → f < faces (ghostly j) → ghost_up first n g ghostly j f ≡ true → rule_of_ghost j f ≡ true
    ghost-up j f h face e =
        rw (past j, add-sub_cancel_left n j) at (ups (n + j) f (omega arith) (rw (past j, add-sub_cancel_left n j) face) (rw (past j, add-sub_cancel_left n j) e))

    -- neither up nor listed: to a record that isn't held
    ghost-free : (j f : ℕ) → j < g → f < faces (ghostly j) → ghost_up first n g ghostly j f ≡ false → ghost_listed g ghostly j f ≡ false → rule_of_ghost j f ≡ true
    unfolding ghost_up ghost_listed ghost_rule ghost_rule_to ghost_low
    ghost-free j f h face u l =
        let r = ghostly j in
        let k : ℕ = neighbour_of r f in
        let out : in_range first (first + n) k ≡ false = either (in_range first (first + n) k) (λ p. clash (or_left (in_range first (first + n) k) _ p) u) (λ p. p) in
        let free : any_below g (ghost_has ghostly k) ≡ false =
        either (any_below g (ghost_has ghostly k))
        (λ p. either (ltb (number_of r) k)
        (λ q. clash (or_right (in_range first (first + n) k) _ (and_intro (any_below g (ghost_has ghostly k)) _ p q)) u)
        (λ q. clash (and_intro (any_below g (ghost_has ghostly k)) (leb k (number_of r)) p (le-leb k (number_of r) (omega tests))) l))
        (λ p. p) in
        rw (out, free) (all_at (faces r) (ghost_low ghostly K j) (ghost_seen_lem j h).1 f face)

    ghost-both : (j f : ℕ) → j < g → f < faces (ghostly j) → (boundary_ok (number_of (ghostly j)) (ghostly j) f ≡ true) × (rule_of_ghost j f ≡ true)
    ghost-both j f h face =
        either (ghost_listed g ghostly j f) (λ p. ghost-down j h f face p)
        (λ p. (
          boundary_other (number_of (ghostly j)) (ghostly j) f (λ w. clash {C = ⊥} (own-listed j f h w) p),
          either (ghost_up first n g ghostly j f) (λ q. ghost-up j f h face q) (λ q. ghost-free j f h face q p),
        ))

    pub ghost_whole_lem : (j : ℕ) → j < g → ghost_whole (link_by_dimension D) first n g tree ghostly name K D j ≡ true
    unfolding ghost_whole
    ghost_whole_lem j h =
        let r = ghostly j in
        let formed : Bool = in_form (number_of r) r && eqb (dimension_of (shape_of r)) D in
        and_intro (formed && beside j h) _ (and_intro formed (beside j h) (alone_form (number_of r) r D (ghost_seen_lem j h).0 (λ f face. (ghost-both j f h face).0)) (ghost_seen_lem j h).2)
        (all_intro (faces r) (rule_of_ghost j) (λ f face. (ghost-both j f h face).1))
