-- What is seen of a tree, by the general tests and by those of plain trees.
use Prim.Native.Nat.{ℕ, ◌+◌, ◌-◌, ◌*◌, ◌≤◌, ◌<◌}
use native.Mathlib.Omega.{arith}
use mathlib.Core.Path.{◌≡◌, refl, sym, ap, ◌∙◌}
use mathlib.Core.Bool.{Bool, true, false, cond, not, ◌&&◌, ◌||◌, and-false}
use mathlib.Core.List.{List}
use lib.Dec.{leb, ltb, eqb}
use borrow.Author.Tests.{ltb-true, leb-true, eqb-true, eqb-false, lt-ltb, le-ltb, le-leb, eq-eqb}
use Rattle.encoding.specs.Below.{all_below, count_below}
use Rattle.encoding.specs.Pieces.{piece}
use Rattle.encoding.proofs.Below.{tests, either, and_fst, and_snd, and_intro, iff_eq}
use Rattle.records.specs.Shape.{shape_ok, dimension_of, face_count}
use Rattle.records.specs.Record.{core_size, tree_size, number_of, shape_of, neighbour_of, code_of, zeros_ok, region_ok, boundary_ok}
use Rattle.records.proofs.Forms.{unused_first}
use Rattle.std.specs.Prelude.{Some}
use Rattle.mesh.specs.declared.sound.Counts.{Counts}
use Rattle.mesh.specs.Means.{link_by_dimension, SeenAs}
use Rattle.mesh.proofs.PlainTrees.{plain_edge}
use Rattle.part.specs.Means.{in_range}
use Rattle.ghost_links.specs.Means.{form_alone}
use Rattle.linked.specs.declared.layout.Records.{Records}
use Rattle.linked.specs.Means.{tree_of, named, name_of, place_of, tree_numbered, tree_to, tree_link, tree_up, tree_down, tree_listed, tree_fits, tree_face, tree_seen, tree_ups, tree_downs, tree_place, TreeKnown}

-- ---- a tree by the general tests

module _ (bs : List ℕ) (x : Records) (i : ℕ) where
  pub seen_unnumbered : {b : Bool} → b ≡ tree_numbered bs x i → b ≡ false → tree_seen bs x i ≡ false
  unfolding tree_seen
  seen_unnumbered e h = rw (← e, h)

  pub known_tree : {b : Bool} → i < x.count → b ≡ tree_numbered bs x i → b ≡ true → TreeKnown bs x i
  known_tree h e t = record { below = h; number = sym e ∙ t }

  module _ {at : ℕ} (here : at ≡ x.head + tree_size * i) where
    tree_is : tree_of bs x i ≡ piece bs at core_size
    unfolding tree_of
    tree_is = rw here

    pub shape_here : {s : ℕ} → shape_of (tree_of bs x i) ≡ s → shape_of (piece bs at core_size) ≡ s
    shape_here e = rw (← tree_is) e

    pub shape_there : {s : ℕ} → s ≡ shape_of (piece bs at core_size) → shape_of (tree_of bs x i) ≡ s
    shape_there e = rw tree_is (sym e)

    module _ {a : Bool} (alone : a ≡ form_alone x.dimension (piece bs at core_size)) where
      alone-is : form_alone x.dimension (tree_of bs x i) ≡ a
      alone-is = rw tree_is (sym alone)

      pub seen_off : a ≡ false → tree_seen bs x i ≡ false
      unfolding tree_seen
      seen_off h = rw (alone-is, h, and-false)

    module _ {shape faces : ℕ} (shaped : shape ≡ shape_of (piece bs at core_size)) (counted : faces ≡ face_count shape) where
      faces-are : face_count (shape_of (tree_of bs x i)) ≡ faces
      faces-are = ap face_count (shape_there shaped) ∙ sym counted

      pub seen_unlisted : all_below faces (tree_face bs x i) ≡ false → tree_seen bs x i ≡ false
      unfolding tree_seen
      seen_unlisted h = rw (faces-are, h, and-false)

      pub seen_linked : {b a : Bool} {seen : Counts} → b ≡ tree_numbered bs x i → b ≡ true → a ≡ form_alone x.dimension (piece bs at core_size) → a ≡ true → all_below faces (tree_face bs x i) ≡ true → faces ≤ 6
          → (seen.ups ≡ count_below faces (tree_up bs x i)) × (seen.ups ≤ faces) → (seen.downs ≡ count_below faces (tree_down bs x i)) × (seen.downs ≤ faces) → SeenAs (tree_seen bs x i) (tree_ups bs x i) (tree_downs bs x i) 6 (Some seen)
      unfolding tree_seen tree_ups tree_downs
      seen_linked n t a q l six u d =
          let alone : form_alone x.dimension (tree_of bs x i) ≡ true = alone-is a ∙ q in
          rw (faces-are, ← n, t, alone, l) (refl, record { upward = u.0; downward = d.0; few = (omega (arith, u.1), omega (arith, d.1)) })

-- ---- local indices of trees

pub pick_true : {A : Type 0} (b : Bool) (u v : A) → b ≡ true → cond b u v ≡ u
pick_true b u v e = rw e

pub pick_false : {A : Type 0} (b : Bool) (u v : A) → b ≡ false → cond b u v ≡ v
pick_false b u v e = rw e

module _ (bs : List ℕ) (x : Records) (i : ℕ) where
  name-index : x.local ≡ true → name_of bs x i ≡ i
  unfolding name_of
  name-index e = pick_true x.local _ _ e

  name-number : i < x.count → x.local ≡ false → name_of bs x i ≡ x.first.0 + i
  unfolding name_of
  name-number h e = pick_false x.local _ _ e ∙ rw (lt-ltb i x.count h)

  last-local : x.local ≡ true → cond {A = ℕ} x.local x.count (x.first.0 + x.count) ≡ x.count
  last-local e = pick_true x.local _ _ e

  last-global : x.local ≡ false → cond {A = ℕ} x.local x.count (x.first.0 + x.count) ≡ x.first.0 + x.count
  last-global e = pick_false x.local _ _ e

module _ (bs : List ℕ) (x : Records) (v : ℕ) (inside : tree_place x v < x.count) where
  -- where neighbours have numbers
  range-there : x.local ≡ false → (x.first.0 ≤ v) × (tree_place x v ≡ v - x.first.0)
  unfolding tree_place
  range-there e =
      either (leb x.first.0 v)
      (λ p. (leb-true _ _ p, rw (e, p)))
      (λ p. let none : x.count < x.count = rw (e, p) at inside in absurd (omega arith))

  local-is : x.local ≡ true → place_of bs x v ≡ tree_place x v
  unfolding place_of tree_place
  local-is e = rw e

  pub placed_there : place_of bs x v ≡ tree_place x v
  unfolding place_of in_range
  placed_there =
      either x.local
      (λ e. local-is e)
      (λ e.
      let r = range-there e in
      let p : leb x.first.0 v ≡ true = le-leb x.first.0 v r.0 in
      let less : v < x.first.0 + x.count = omega (arith, r.0, r.1, inside) in
      let q : ltb v (x.first.0 + x.count) ≡ true = lt-ltb v (x.first.0 + x.count) less in
      pick_false x.local _ _ e ∙ rw (p, q) (sym r.1))

  module _ (i : ℕ) (below : i < x.count) where
    local-place : x.local ≡ true → tree_place x v ≡ v
    unfolding tree_place
    local-place e = rw e

    pub up_there : (ltb (name_of bs x i) v && ltb v (cond x.local x.count (x.first.0 + x.count))) ≡ ltb i (tree_place x v)
    up_there =
        either x.local
        (λ e.
        let p : tree_place x v ≡ v = local-place e in
        let less : v < x.count = omega (arith, p, inside) in
        rw (name-index bs x i e, last-local bs x i e, p)
        (iff_eq (ltb i v && ltb v x.count) (ltb i v) (λ q. and_fst (ltb i v) _ q) (λ q. and_intro (ltb i v) (ltb v x.count) q (lt-ltb v x.count less))))
        (λ e.
        let r = range-there e in
        let less : v < x.first.0 + x.count = omega (arith, r.0, r.1, inside) in
        rw (name-number bs x i below e, last-global bs x i e, r.1)
        (iff_eq (ltb (x.first.0 + i) v && ltb v (x.first.0 + x.count)) (ltb i (v - x.first.0))
        (λ q. lt-ltb i (v - x.first.0) (omega (arith, ltb-true (x.first.0 + i) v (and_fst (ltb (x.first.0 + i) v) _ q))))
        (λ q. and_intro (ltb (x.first.0 + i) v) (ltb v (x.first.0 + x.count)) (lt-ltb (x.first.0 + i) v (omega (arith, ltb-true i (v - x.first.0) q))) (lt-ltb v (x.first.0 + x.count) less))))

    pub back_there : eqb v (name_of bs x i) ≡ eqb (tree_place x v) i
    back_there =
        either x.local
        (λ e. rw (name-index bs x i e, local-place e))
        (λ e.
        let r = range-there e in
        rw (name-number bs x i below e, r.1)
        (iff_eq (eqb v (x.first.0 + i)) (eqb (v - x.first.0) i)
        (λ q. eq-eqb (v - x.first.0) i (omega (arith, eqb-true v (x.first.0 + i) q)))
        (λ q. eq-eqb v (x.first.0 + i) (omega (arith, r.0, eqb-true (v - x.first.0) i q)))))

-- ---- plain trees

hexahedron_alone : (r : List ℕ) → shape_of r ≡ 2 → zeros_ok r ≡ true → region_ok r ≡ true → form_alone 3 r ≡ true
unfolding form_alone shape_ok dimension_of face_count
hexahedron_alone r s z g = rw (s, z, g, unused_first 6 r)

module _ (bs : List ℕ) (x : Records) (i : ℕ) {at : ℕ} (here : at ≡ x.head + tree_size * i) where
  own_is : tree_of bs x i ≡ piece bs at core_size
  unfolding tree_of
  own_is = rw here

  module _ (f b : ℕ) {to : ℕ} (there : to ≡ x.head + tree_size * b) where
    other-is : tree_of bs x b ≡ piece bs to core_size
    unfolding tree_of
    other-is = rw there

    pub alike_local : x.local ≡ true → link_by_dimension 3 i (piece bs at core_size) f (piece bs to core_size) ≡ true → link_by_dimension 3 (name_of bs x i) (tree_of bs x i) f (tree_of bs x b) ≡ true
    alike_local e p = rw (name-index bs x i e, own_is, other-is, p)

    pub alike_global : {number : ℕ} → x.local ≡ false → TreeKnown bs x i → number ≡ number_of (piece bs at core_size) → link_by_dimension 3 number (piece bs at core_size) f (piece bs to core_size) ≡ true → link_by_dimension 3 (name_of bs x i) (tree_of bs x i) f (tree_of bs x b) ≡ true
    unfolding tree_numbered
    alike_global e k read p =
        let number : number_of (tree_of bs x i) ≡ x.first.0 + i = eqb-true _ _ k.number in
        let same : name_of bs x i ≡ number_of (piece bs at core_size) = name-number bs x i k.below e ∙ sym number ∙ ap number_of own_is in
        rw (same, own_is, other-is, ← read, p)

  -- a link that doesn't lead up
  module _ (f : ℕ) {j c : ℕ} (place : j ≡ tree_place x (named bs x i f)) (low : j ≤ i) (k : TreeKnown bs x i) (hexahedron : shape_of (tree_of bs x i) ≡ 2) (space : x.dimension ≡ 3) (code : c ≡ code_of (piece bs at core_size) f) where
    inside : tree_place x (named bs x i f) < x.count
    inside = omega (arith, place, k.below)

    edge : (not (eqb j i) || ltb c 6) ≡ true → boundary_ok (name_of bs x i) (tree_of bs x i) f ≡ true
    unfolding named dimension_of
    edge t =
        let solid : dimension_of (shape_of (tree_of bs x i)) ≡ 3 = rw hexahedron in
        let same : eqb (named bs x i f) (name_of bs x i) ≡ eqb j i = rw (back_there bs x (named bs x i f) inside i k.below, ← place) in
        let coded : c ≡ code_of (tree_of bs x i) f = rw own_is code in
        plain_edge (name_of bs x i) (tree_of bs x i) f solid refl coded (rw same t)

    pub plain_fits : {b : Bool} → (b ≡ true → link_by_dimension 3 (name_of bs x i) (tree_of bs x i) f (tree_of bs x j) ≡ true) → (b && (not (eqb j i) || ltb c 6)) ≡ true → tree_fits bs x i f ≡ true
    unfolding tree_fits tree_link tree_to
    plain_fits {b} link t =
        let at_j : place_of bs x (named bs x i f) ≡ j = placed_there bs x (named bs x i f) inside ∙ sym place in
        let obeys : link_by_dimension x.dimension (name_of bs x i) (tree_of bs x i) f (tree_of bs x j) ≡ true =
        ap (λ (d : ℕ). link_by_dimension d (name_of bs x i) (tree_of bs x i) f (tree_of bs x j)) space ∙ link (and_fst b _ t) in
        rw (edge (and_snd b _ t), at_j, lt-ltb j x.count (omega (arith, k.below)), obeys)

  -- its faces
  module _ (f : ℕ) {n j : ℕ} (read : n ≡ neighbour_of (piece bs at core_size) f) (place : j ≡ tree_place x n) where
    name-read : n ≡ named bs x i f
    unfolding named
    name-read = rw (own_is, read)

    pub place_read : j ≡ tree_place x (named bs x i f)
    place_read = rw (← name-read) place

  module _ (f : ℕ) {n j : ℕ} (read : n ≡ neighbour_of (piece bs at core_size) f) (place : j ≡ tree_place x n) (less : j < x.count) (below : i < x.count) where
    there-read : j ≡ tree_place x (named bs x i f)
    there-read = place_read f read place

    inside-read : tree_place x (named bs x i f) < x.count
    inside-read = omega (arith, there-read)

    up_read : tree_up bs x i f ≡ ltb i j
    unfolding tree_up
    up_read = up_there bs x (named bs x i f) inside-read i below ∙ ap (ltb i) (sym there-read)

    pub face_up : i < j → tree_face bs x i f ≡ true
    unfolding tree_face tree_listed
    face_up h = rw (up_read, lt-ltb i j h)

    pub up_up : i < j → true ≡ tree_up bs x i f
    up_up h = rw (up_read, lt-ltb i j h)

    pub up_down : i < j → tree_down bs x i f ≡ false
    unfolding tree_down
    up_down h = rw (up_read, lt-ltb i j h)

    pub face_down : j ≤ i → tree_fits bs x i f ≡ true → tree_face bs x i f ≡ true
    unfolding tree_face tree_listed
    face_down h e = rw (up_read, le-ltb i j h, e)

    pub down_up : j ≤ i → tree_up bs x i f ≡ false
    down_up h = rw (up_read, le-ltb i j h)

    pub down_down : j ≤ i → ltb j i ≡ tree_down bs x i f
    unfolding tree_down
    down_down h =
        let same : eqb (named bs x i f) (name_of bs x i) ≡ eqb j i = back_there bs x (named bs x i f) inside-read i below ∙ ap (λ (m : ℕ). eqb m i) (sym there-read) in
        rw (up_read, le-ltb i j h, same)
        (either (eqb j i) (λ q. rw q (le-ltb j i (omega tests))) (λ q. rw q (lt-ltb j i (omega (arith, eqb-false j i q)))))

  -- the tree
  module _ {d s : ℕ} {b z g : Bool} (number : b ≡ tree_numbered bs x i) (space : d ≡ x.dimension) (shape : s ≡ shape_of (piece bs at core_size)) (zeros : z ≡ zeros_ok (piece bs at core_size)) (region : g ≡ region_ok (piece bs at core_size)) (all : (b && eqb d 3 && eqb s 2 && z && g) ≡ true) where
    four : (b && eqb d 3 && eqb s 2 && z) ≡ true
    four = and_fst (b && eqb d 3 && eqb s 2 && z) g all

    three : (b && eqb d 3 && eqb s 2) ≡ true
    three = and_fst (b && eqb d 3 && eqb s 2) z four

    two : (b && eqb d 3) ≡ true
    two = and_fst (b && eqb d 3) (eqb s 2) three

    pub plain_known : i < x.count → TreeKnown bs x i
    plain_known h = record { below = h; number = sym number ∙ and_fst b (eqb d 3) two }

    pub plain_space : x.dimension ≡ 3
    plain_space = sym space ∙ eqb-true d 3 (and_snd b (eqb d 3) two)

    pub plain_shape : shape_of (tree_of bs x i) ≡ 2
    plain_shape = ap shape_of own_is ∙ sym shape ∙ eqb-true s 2 (and_snd (b && eqb d 3) (eqb s 2) three)

    plain-alone : form_alone x.dimension (tree_of bs x i) ≡ true
    plain-alone =
        let z' : zeros_ok (tree_of bs x i) ≡ true = rw own_is (sym zeros ∙ and_snd (b && eqb d 3 && eqb s 2) z four) in
        let g' : region_ok (tree_of bs x i) ≡ true = rw own_is (sym region ∙ and_snd (b && eqb d 3 && eqb s 2 && z) g all) in
        ap (λ (d : ℕ). form_alone d (tree_of bs x i)) plain_space ∙ hexahedron_alone (tree_of bs x i) plain_shape z' g'

    pub plain_seen : {seen : Counts} → SeenAs (all_below 6 (tree_face bs x i)) (count_below 6 (tree_up bs x i)) (count_below 6 (tree_down bs x i)) 6 (Some seen) → SeenAs (tree_seen bs x i) (tree_ups bs x i) (tree_downs bs x i) 6 (Some seen)
    unfolding tree_seen tree_ups tree_downs face_count
    plain_seen s =
        let numbered : tree_numbered bs x i ≡ true = sym number ∙ and_fst b (eqb d 3) two in
        rw (numbered, plain-alone, plain_shape) s
