-- The loops of `linked` over an area's slots find what records_join says.
use Prim.Native.Nat.{ℕ, ◌+◌, ◌-◌, ◌*◌, ◌^◌, ◌≤◌, ◌<◌}
use native.Mathlib.Nat.{add-sub_cancel_left}
use native.Mathlib.Omega.{arith}
use mathlib.Core.Path.{◌≡◌, refl, sym, ap, ap₂, fun_ext, ◌∙◌}
use mathlib.Core.Bool.{Bool, true, false, cond, ◌&&◌}
use mathlib.Core.List.{List}
use lib.Dec.{eqb}
use lib.ListN.{length}
use borrow.Author.Tests.{eq-eqb, lt-ltb, le-ltb}
use Rattle.encoding.specs.Below.{any_below, least_below}
use Rattle.encoding.specs.Pieces.{piece, Bytes}
use Rattle.encoding.proofs.Below.{either, all_same, least_lt, least_none}
use Rattle.records.specs.Shape.{dimension_of, face_count}
use Rattle.records.specs.Record.{core_size, tree_size, number_of, shape_of, neighbour_of, in_form}
use Rattle.mesh.specs.Means.{link_by_dimension}
use Rattle.part.specs.Means.{is_local, ghost_is, held, held_core, in_range, neighbour_in, ghost_has}
use Rattle.ghost_links.specs.Means.{core_from}
use Rattle.ghost_links.proofs.FromOneEnd.{range_both}
use Rattle.linked.specs.declared.layout.Records.{Records}
use Rattle.linked.specs.Means.{tree_of, ghost_of, named, name_of, place_of, tree_numbered, tree_link, ghost_link, tree_whole, ghost_whole, records_linked, Laid, Marked, Numbered}
use Rattle.linked.specs.Means.{tree_to as tree_to_at, ghost_to as ghost_to_number}
use Rattle.linked.proofs.Seeing.{pick_false}
use Rattle.linked.proofs.Numbers.{few_ascending}
use Rattle.area.specs.Layout.{ghost_slots_place}
use Rattle.area.specs.Area.{area_k, area_new}
use Rattle.close_check.specs.Means.{tree_from, ghost_from, SlotsNumbered, tree_to, link_of_tree, ghost_to, link_of_ghost, tree_joins, ghost_joins, records_join, join_sound, Complete, GhostsIndexed, SlotsOf}
use Rattle.close_check.proofs.Joining.{numbered_read, join_read}

module _ (a : List ℕ) (x : Records) (S : SlotsNumbered a x.head x.first.0 x.count x.ghosts x.trees) (tail : x.tail ≡ x.head + tree_size * x.count) (global : x.local ≡ false) where
  abbrev first : ℕ
  first = x.first.0

  abbrev n : ℕ
  n = x.count

  abbrev g : ℕ
  g = x.ghosts

  abbrev tree : ℕ → List ℕ
  tree = tree_from a x.head

  abbrev ghostly : ℕ → List ℕ
  ghostly = ghost_from a x.head x.count

  abbrev link : ℕ → List ℕ → ℕ → List ℕ → Bool
  link = link_by_dimension x.dimension

  trees_are : tree_of a x ≡ tree_from a x.head
  unfolding tree_of tree_from
  trees_are = refl

  ghosts-are : ghost_of a x ≡ ghost_from a x.head x.count
  unfolding ghost_of core_from ghost_from
  ghosts-are = fun_ext (λ j. ap (λ (p : ℕ). piece a p core_size) (omega (arith, tail)))

  -- ---- numbers

  pub slots_known : Numbered a x
  slots_known =
      record {
        within = S.range;
        least = S.few;
        few = few_ascending (λ j. number_of (ghost_of a x j)) x.ghosts x.trees (rw ghosts-are S.slots.ascends) (rw ghosts-are S.below);
        below = rw ghosts-are S.below;
        outside = rw ghosts-are S.slots.outside;
        ascends = rw ghosts-are S.slots.ascends;
      }

  name-tree : (i : ℕ) → i < n → name_of a x i ≡ first + i
  unfolding name_of
  name-tree i h = pick_false x.local _ _ global ∙ rw (lt-ltb i n h)

  name-ghost : (j : ℕ) → name_of a x (n + j) ≡ number_of (ghost_from a x.head x.count j)
  unfolding name_of
  name-ghost j = pick_false x.local _ _ global ∙ rw (le-ltb (n + j) n (omega arith), add-sub_cancel_left n j, ghosts-are)

  place_is : (v : ℕ) → place_of a x v ≡ cond {A = ℕ} (in_range x.first.0 (x.first.0 + x.count) v) (v - x.first.0) (x.count + least_below x.ghosts (ghost_has (ghost_from a x.head x.count) v))
  unfolding place_of
  place_is v = pick_false x.local _ _ global ∙ rw ghosts-are

  -- ---- trees

  module _ (i : ℕ) (h : i < n) where
    -- to the record that is found by number k
    to_is : (f k : ℕ) → tree_to_at a x i f (cond {A = ℕ} (in_range x.first.0 (x.first.0 + x.count) k) (k - x.first.0) (x.count + least_below x.ghosts (ghost_has (ghost_from a x.head x.count) k)))
        ≡ tree_to (link_by_dimension x.dimension) a x.head x.first.0 x.count x.ghosts i f k
    unfolding tree_to_at tree_to held held_core is_local ghost_is ghost_has in_range
    to_is f k =
        let m : ℕ = least_below g (ghost_has ghostly k) in
        either (in_range first (first + n) k)
        (λ p. let b = range_both first n k p in rw (p, lt-ltb (k - first) n (omega (arith, b.0, b.1)), name-tree i h, trees_are))
        (λ p. either (any_below g (ghost_has ghostly k))
        (λ q. rw (p, q, le-ltb (n + m) n (omega arith), add-sub_cancel_left n m, lt-ltb m g (least_lt g (ghost_has ghostly k) q), trees_are, ghosts-are))
        (λ q. rw (p, q, le-ltb (n + m) n (omega arith), add-sub_cancel_left n m, le-ltb m g (omega (arith, least_none g (ghost_has ghostly k) q)))))

    link_is : (f : ℕ) → tree_link a x i f ≡ link_of_tree (link_by_dimension x.dimension) a x.head x.first.0 x.count x.ghosts i f
    unfolding tree_link named link_of_tree
    link_is f = rw (trees_are, place_is (neighbour_of (tree i) f)) (to_is f (neighbour_of (tree i) f))

    number_is : tree_numbered a x i ≡ true
    unfolding tree_numbered
    number_is = rw trees_are (eq-eqb _ _ (S.slots.numbered i h))

    formed-is : in_form (name_of a x i) (tree_of a x i) ≡ true
    formed-is = rw (name-tree i h, trees_are) (S.trees_formed i h)

    tree_is : tree_whole a x i ≡ tree_joins (link_by_dimension x.dimension) a x.head x.first.0 x.count x.ghosts x.dimension i
    unfolding tree_whole tree_joins
    tree_is =
        rw (formed-is, number_is, trees_are)
        (ap (λ (b : Bool). eqb (dimension_of (shape_of (tree i))) x.dimension && b) (all_same (face_count (shape_of (tree i))) (tree_link a x i) (link_of_tree link a x.head first n g i) (λ f l. link_is f)))

  -- ---- ghosts

  module _ (j : ℕ) (h : j < g) where
    ghost-to : (f k : ℕ) → ghost_to_number a x j f k ≡ ghost_to (link_by_dimension x.dimension) a x.head x.first.0 x.count x.ghosts x.trees j f k
    unfolding ghost_to_number ghost_to held held_core is_local ghost_is ghost_has in_range
    ghost-to f k =
        either (in_range first (first + n) k)
        (λ p. rw (p, name-ghost j, trees_are, ghosts-are))
        (λ p. either (any_below g (ghost_has ghostly k)) (λ q. rw (ghosts-are, p, q)) (λ q. rw (ghosts-are, p, q)))

    ghost-link : (f : ℕ) → ghost_link a x j f ≡ link_of_ghost (link_by_dimension x.dimension) a x.head x.first.0 x.count x.ghosts x.trees j f
    unfolding ghost_link link_of_ghost
    ghost-link f = rw ghosts-are (ghost-to f (neighbour_of (ghostly j) f))

    ghost_is_lem : ghost_whole a x j ≡ ghost_joins (link_by_dimension x.dimension) a x.head x.first.0 x.count x.ghosts x.dimension x.trees j
    unfolding ghost_whole ghost_joins
    ghost_is_lem =
        let r : List ℕ = ghostly j in
        let alone : Bool = eqb (dimension_of (shape_of r)) x.dimension && any_below (face_count (shape_of r)) (neighbour_in first (first + n) r) in
        rw (ghosts-are, S.ghosts_formed j h)
        (ap (λ (b : Bool). alone && b) (all_same (face_count (shape_of r)) (ghost_link a x j) (link_of_ghost link a x.head first n g x.trees j) (λ f l. ghost-link f)))

  -- ---- all records

  pub records_join_lem : records_linked a x ≡ records_join (link_by_dimension x.dimension) a x.head x.first.0 x.count x.ghosts x.dimension x.trees
  unfolding records_linked records_join
  records_join_lem =
      ap₂ (λ (b c : Bool). b && c)
      (all_same n (tree_whole a x) (tree_joins link a x.head first n g x.dimension) (λ i h. tree_is i h))
      (all_same g (ghost_whole a x) (ghost_joins link a x.head first n g x.dimension x.trees) (λ j h. ghost_is_lem j h))

-- ---- the records in an area's slots

-- in an area that is sound, with every due sender heard
module _ {a : List ℕ} (bytes : Bytes a) (C : Complete a (area_new a)) {x : Records} (slots : SlotsOf a x) where
  numbered : SlotsNumbered a x.head x.first.0 x.count x.ghosts x.trees
  numbered = numbered_read a bytes C slots.number refl slots.head slots.count slots.ghosts slots.trees

  tail-is : x.tail ≡ x.head + tree_size * x.count
  unfolding ghost_slots_place
  tail-is = slots.tail ∙ ap₂ (λ (h m : ℕ). h + tree_size * m) (sym slots.head) (sym slots.count)

  pub slots_numbered : Numbered a x
  slots_numbered = slots_known a x numbered tail-is slots.global

  pub slots_laid : length a < 2 ^ 64 → Laid a x
  slots_laid long =
      record {
        room = record { trees = omega (arith, numbered.slots.fits); ghosts = omega (arith, numbered.slots.fits, tail-is) };
        trees = omega (arith, numbered.slots.fits);
        ghosts = omega (arith, numbered.slots.fits, tail-is);
        most = numbered.slots.most;
      }

  pub slots_marked : {marks behind : List ℕ} → length a < 2 ^ 64 → GhostsIndexed a marks behind → Marked a x marks behind
  slots_marked long i = record { laid = slots_laid long; few = omega (arith, slots_numbered.few, slots_numbered.least); indexed = rw (slots.tail, slots.ghosts) i }

  pub slots_room : {room : ℕ} → area_k a ≤ room → x.trees ≤ room
  slots_room h = omega (arith, slots.trees)

  pub slots_join : {r : Bool} → r ≡ records_linked a x → r ≡ join_sound a
  slots_join e =
      join_read a bytes C slots.number refl slots.head slots.count slots.ghosts slots.dimension slots.trees (e ∙ records_join_lem a x numbered tail-is slots.global)
