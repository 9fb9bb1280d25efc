-- What the functions read and find is what the definitions say.
use Prim.Native.Nat.{ℕ, ◌+◌, ◌-◌, ◌*◌, ◌≤◌, ◌<◌}
use native.Mathlib.Omega.{arith}
use mathlib.Core.Path.{◌≡◌, sym, ap, ◌∙◌}
use mathlib.Core.Bool.{Bool, true, false, cond, not, ◌&&◌, and-false}
use mathlib.Core.List.{List}
use lib.Dec.{ltb, eqb}
use lib.ListN.{length}
use borrow.Author.Tests.{ltb-true, eqb-true, eqb-false, lt-ltb, le-ltb, le-leb, lt-leb, eq-eqb, ne_eqb}
use Rattle.encoding.specs.Below.{count_below}
use Rattle.encoding.specs.Pieces.{piece}
use Rattle.encoding.proofs.Below.{tests, either, clash, and_fst, and_snd}
use Rattle.records.specs.Record.{core_size, tree_size, number_of, neighbour_of, boundary_ok}
use Rattle.mesh.specs.Means.{link_by_dimension}
use Rattle.part.specs.Means.{in_range}
use Rattle.positions.specs.Means.{member_position}
use Rattle.ghost_links.specs.Means.{core_from}
use Rattle.ghost_links.proofs.Checking.{position_is}
use Rattle.linked.specs.declared.layout.Records.{Records}
use Rattle.linked.specs.Means.{record_place, tree_of, ghost_of, named, name_of, place_of, tree_numbered, tree_to, tree_link, tree_up, tree_down, tree_listed, tree_fits, tree_face, tree_place, Laid, Marked, TreeKnown}

-- ---- places

module _ (x : Records) where
  pub place_tree : (b : ℕ) → b < x.count → x.head + tree_size * b ≡ record_place x b
  unfolding record_place
  place_tree b h = rw (lt-ltb b x.count h)

  pub place_ghost : (b : ℕ) → x.count ≤ b → x.tail + core_size * (b - x.count) ≡ record_place x b
  unfolding record_place
  place_ghost b h = rw (le-ltb b x.count h)

  -- a record that is held stands in the bytes
  pub place_fits : (bs : List ℕ) → Laid bs x → (b : ℕ) → b < x.count + x.ghosts → {to : ℕ} → to ≡ record_place x b → to + core_size ≤ length bs
  place_fits bs l b h e =
      either (ltb b x.count)
      (λ p. omega (tests, e, place_tree b (ltb-true _ _ p), l.trees))
      (λ p. omega (tests, e, place_ghost b (omega tests), l.ghosts))

  pub place_local : (v : ℕ) → x.local ≡ true → v ≡ tree_place x v
  unfolding tree_place
  place_local v e = rw e

  pub place_in : (v : ℕ) {r : ℕ} → x.local ≡ false → x.first.0 ≤ v → r + x.first.0 ≡ v → r ≡ tree_place x v
  unfolding tree_place
  place_in v e h q = rw (e, le-leb x.first.0 v h) (omega arith)

  pub place_out : (v : ℕ) → x.local ≡ false → v < x.first.0 → x.count ≡ tree_place x v
  unfolding tree_place
  place_out v e h = rw (e, lt-leb x.first.0 v h)

module _ (bs : List ℕ) (x : Records) where
  pub placed_local : (v : ℕ) → x.local ≡ true → v ≡ place_of bs x v
  unfolding place_of
  placed_local v e = rw e

  pub placed_in : (v : ℕ) {r : ℕ} → x.local ≡ false → in_range x.first.0 (x.first.0 + x.count) v ≡ true → r + x.first.0 ≡ v → r ≡ place_of bs x v
  unfolding place_of
  placed_in v e h q = rw (e, h) (omega arith)

  pub placed_out : {marks behind : List ℕ} → Marked bs x marks behind → (v : ℕ) {p r : ℕ} → x.local ≡ false → in_range x.first.0 (x.first.0 + x.count) v ≡ false → p ≡ member_position marks x.ghosts v → r ≡ x.count + p → r ≡ place_of bs x v
  unfolding place_of ghost_of
  placed_out m v e h p q = rw (e, h, q, position_is bs x.tail m.indexed v p)

  -- ---- a tree by its number and its name

  module _ (i : ℕ) where
    name-index : x.local ≡ true → name_of bs x i ≡ i
    unfolding name_of
    name-index e = rw e

    name-number : TreeKnown bs x i → x.local ≡ false → name_of bs x i ≡ x.first.0 + i
    unfolding name_of
    name-number k e = rw (e, lt-ltb i x.count k.below)

    pub up_local : (v : ℕ) → x.local ≡ true → (ltb i v && ltb v x.count) ≡ (ltb (name_of bs x i) v && ltb v (cond x.local x.count (x.first.0 + x.count)))
    up_local v e = rw (name-index e, e)

    pub back_local : (v : ℕ) → x.local ≡ true → eqb v i ≡ eqb v (name_of bs x i)
    back_local v e = rw (name-index e)

    pub fits_edge : {b : Bool} (f : ℕ) → b ≡ boundary_ok (name_of bs x i) (tree_of bs x i) f → b ≡ false → false ≡ tree_fits bs x i f
    unfolding tree_fits
    fits_edge f e h = rw (← e, h)

  module _ (i : ℕ) {at : ℕ} (here : at ≡ x.head + tree_size * i) where
    here-is : tree_of bs x i ≡ piece bs at core_size
    unfolding tree_of
    here-is = rw here

    module _ {number : ℕ} (read : number ≡ number_of (piece bs at core_size)) where
      number_is : number ≡ number_of (tree_of bs x i)
      number_is = read ∙ ap number_of (sym here-is)

      pub numbered_below : number < x.first.0 → false ≡ tree_numbered bs x i
      unfolding tree_numbered
      numbered_below h = rw (← number_is) (sym (ne_eqb number (x.first.0 + i) (λ e. omega arith)))

      pub numbered_is : (r : ℕ) → r + x.first.0 ≡ number → eqb r i ≡ tree_numbered bs x i
      unfolding tree_numbered
      numbered_is r e =
          rw (← number_is)
          (either (eqb r i) (λ q. rw q (sym (eq-eqb number (x.first.0 + i) (omega tests)))) (λ q. rw q (sym (ne_eqb number (x.first.0 + i) (λ w. eqb-false r i q (omega arith))))))

      known-number : TreeKnown bs x i → number ≡ x.first.0 + i
      unfolding tree_numbered
      known-number k = number_is ∙ eqb-true _ _ k.number

    -- ---- whether a link leads up, back, or to a boundary

    pub up_global : (v : ℕ) {number : ℕ} → x.local ≡ false → TreeKnown bs x i → number ≡ number_of (piece bs at core_size) → (ltb number v && ltb v (x.first.0 + x.count)) ≡ (ltb (name_of bs x i) v && ltb v (cond x.local x.count (x.first.0 + x.count)))
    up_global v e k read = rw (name-number i k e, known-number read k, e)

    pub back_global : (v : ℕ) {number : ℕ} → x.local ≡ false → TreeKnown bs x i → number ≡ number_of (piece bs at core_size) → eqb v number ≡ eqb v (name_of bs x i)
    back_global v e k read = rw (name-number i k e, known-number read k)

    pub edge_local : {b : Bool} (f : ℕ) → x.local ≡ true → b ≡ boundary_ok i (piece bs at core_size) f → b ≡ boundary_ok (name_of bs x i) (tree_of bs x i) f
    edge_local f e p = rw (name-index i e, here-is, p)

    pub edge_global : {b : Bool} (f : ℕ) {number : ℕ} → x.local ≡ false → TreeKnown bs x i → number ≡ number_of (piece bs at core_size) → b ≡ boundary_ok number (piece bs at core_size) f → b ≡ boundary_ok (name_of bs x i) (tree_of bs x i) f
    edge_global f e k read p = rw (name-number i k e, here-is, p, known-number read k)

    -- ---- the rule of a link to a record that is held

    module _ (f b : ℕ) {to : ℕ} (there : to ≡ record_place x b) where
      there-tree : ltb b x.count ≡ true → tree_of bs x b ≡ piece bs to core_size
      unfolding tree_of
      there-tree p = rw (there, ← place_tree x b (ltb-true b x.count p))

      there-ghost : ltb b x.count ≡ false → ghost_of bs x (b - x.count) ≡ piece bs to core_size
      unfolding ghost_of core_from
      there-ghost p = rw (there, ← place_ghost x b (omega tests))

      pub held_local : {r : Bool} → (x.local && ltb b x.count) ≡ true → r ≡ link_by_dimension x.dimension i (piece bs at core_size) f (piece bs to core_size) → r ≡ tree_to bs x i f b
      unfolding tree_to
      held_local e p =
          let local = and_fst x.local (ltb b x.count) e in
          let tree = and_snd x.local (ltb b x.count) e in
          rw (tree, name-index i local, here-is, there-tree tree, p)

      pub held_global : {r : Bool} {number : ℕ} → (x.local && ltb b x.count) ≡ false → TreeKnown bs x i → b < x.count + x.ghosts → number ≡ number_of (piece bs at core_size)
          → r ≡ link_by_dimension x.dimension number (piece bs at core_size) f (piece bs to core_size) → r ≡ tree_to bs x i f b
      unfolding tree_to
      held_global e k h read p =
          either (ltb b x.count)
          (λ t. let global : x.local ≡ false = either x.local (λ l. clash (rw (l, t)) e) (λ l. l) in rw (t, name-number i k global, here-is, there-tree t, p, known-number read k))
          (λ t. rw (t, lt-ltb (b - x.count) x.ghosts (omega tests), here-is, there-ghost t, p, known-number read k))

    -- ---- a link that doesn't lead up

    module _ (f : ℕ) {n p : ℕ} (read : n ≡ neighbour_of (piece bs at core_size) f) (place : p ≡ place_of bs x n) where
      link_is : tree_link bs x i f ≡ tree_to bs x i f p
      unfolding tree_link named
      link_is = rw (here-is, ← read, ← place)

      pub fits_none : x.count + x.ghosts ≤ p → false ≡ tree_fits bs x i f
      unfolding tree_fits tree_to
      fits_none h = rw (link_is, le-ltb p x.count (omega arith), le-ltb (p - x.count) x.ghosts (omega arith), and-false)

      pub fits_read : {b r : Bool} → b ≡ boundary_ok (name_of bs x i) (tree_of bs x i) f → b ≡ true → r ≡ tree_to bs x i f p → r ≡ tree_fits bs x i f
      unfolding tree_fits
      fits_read e h q = rw (← e, h, link_is, q)

    -- ---- the sorted links

    module _ (f : ℕ) {n : ℕ} (read : n ≡ neighbour_of (piece bs at core_size) f) where
      named-is : n ≡ named bs x i f
      unfolding named
      named-is = rw (here-is, read)

      pub up_is : {b : Bool} → b ≡ (ltb (name_of bs x i) n && ltb n (cond x.local x.count (x.first.0 + x.count))) → b ≡ tree_up bs x i f
      unfolding tree_up
      up_is e = rw (← named-is, e)

      pub listed_is : {b : Bool} → b ≡ (ltb (name_of bs x i) n && ltb n (cond x.local x.count (x.first.0 + x.count))) → not b ≡ tree_listed bs x i f
      unfolding tree_listed
      listed_is e = ap not (up_is e)

      pub down_is : {b d : Bool} → b ≡ (ltb (name_of bs x i) n && ltb n (cond x.local x.count (x.first.0 + x.count))) → d ≡ eqb n (name_of bs x i) → (not b && not d) ≡ tree_down bs x i f
      unfolding tree_down
      down_is e q = rw (← up_is e, ← named-is, q)

-- a count that has come to its end
pub count_at : {c : ℕ} (p : ℕ → Bool) (n i : ℕ) → i ≤ n → n ≤ i → (c ≡ count_below i p) × (c ≤ i) → (c ≡ count_below n p) × (c ≤ n)
count_at p n i h k e = let same : i ≡ n = omega arith in rw (← same) e

-- faces that are listed, and those that aren't
module _ (bs : List ℕ) (x : Records) (i f : ℕ) where
  pub not_listed : tree_listed bs x i f ≡ false → tree_face bs x i f ≡ true
  unfolding tree_face
  not_listed e = rw e

  pub listed_fits : tree_listed bs x i f ≡ true → tree_face bs x i f ≡ tree_fits bs x i f
  unfolding tree_face
  listed_fits e = rw e
