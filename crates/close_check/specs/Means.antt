-- Means, no part of what is promised: what inner functions require, and values that mirror their code; proofs/ says that they decide area's Close.
use Rattle.std.specs.Prelude.{ℕ, ◌+◌, ◌*◌, ◌≤◌, ◌<◌, ◌≡◌, Bool, true, false, cond, ◌&&◌, List, ltb, eqb, length}
use Rattle.encoding.specs.Below.{all_below, any_below}
use Rattle.encoding.specs.Pieces.{piece}
use Rattle.offsets.specs.Limits.{max_trees}
use Rattle.pattern.specs.Sets.{gets_from}
use Rattle.records.specs.Shape.{dimension_of, face_count}
use Rattle.records.specs.Record.{core_size, tree_size, number_of, shape_of, neighbour_of, in_form}
use Rattle.mesh.specs.Link.{orientation_ok}
use Rattle.part.specs.Means.{held, held_core, view_sound, in_range, neighbour_in}
use Rattle.positions.specs.Means.{Indexed}
use Rattle.linked.specs.declared.layout.Records.{Records}
use Rattle.area.specs.Layout.{slots_place, ghost_slots_place}
use Rattle.area.specs.Area.{area_dimension, area_k, area_p, area_rank, area_count, area_ghosts, area_old, area_new, area_first, heard, tree_slot_core, ghost_slot, area_sound}
use Rattle.area.specs.Close.{all_heard}
use Rattle.area.specs.Means.{HeaderHolds}

-- sender s is heard if it is due
unfoldable pub sender_heard : List ℕ → ℕ → Bool
sender_heard a s = cond (gets_from (area_old a) (area_new a) (area_rank a) s) (heard a s) true

-- ---- n tree slots from byte `at` on, whose trees are those from first on, and g ghosts behind them

-- the core of tree i
unfoldable pub tree_from : List ℕ → ℕ → ℕ → List ℕ
tree_from a at i = piece a (at + tree_size * i) core_size

-- ghost j
unfoldable pub ghost_from : List ℕ → ℕ → ℕ → ℕ → List ℕ
ghost_from a at n j = piece a (at + tree_size * n + core_size * j) core_size

-- slots in which a record can be looked up by its number
pub record Slots (a : List ℕ) (at first n g : ℕ) : Type 0 where
  pub fits : at + tree_size * n + core_size * g ≤ length a
  pub most : first + n ≤ max_trees
  pub numbered : (i : ℕ) → i < n → number_of (tree_from a at i) ≡ first + i
  pub outside : (j : ℕ) → j < g → in_range first (first + n) (number_of (ghost_from a at n j)) ≡ false
  pub ascends : (i j : ℕ) → i < j → j < g → number_of (ghost_from a at n i) < number_of (ghost_from a at n j)

-- and whose numbers are below K, whose records are in form
pub record SlotsNumbered (a : List ℕ) (at first n g K : ℕ) : Type 0 where
  pub slots : Slots a at first n g
  pub below : (j : ℕ) → j < g → number_of (ghost_from a at n j) < K
  pub range : first + n ≤ K
  pub few : K ≤ max_trees
  pub trees_formed : (i : ℕ) → i < n → in_form (first + i) (tree_from a at i) ≡ true
  pub ghosts_formed : (j : ℕ) → j < g → in_form (number_of (ghost_from a at n j)) (ghost_from a at n j) ≡ true

-- the tests of the records, by either rule of a link: mesh's link_between, or its link_by_dimension, which reads links by the dimension; proofs/ByDimension.antt: over all records both find the same
module _ (link : ℕ → List ℕ → ℕ → List ℕ → Bool) (a : List ℕ) (at first n g : ℕ) where
  -- the link of face f of tree i to tree k
  unfoldable pub tree_to : ℕ → ℕ → ℕ → Bool
  tree_to i f k =
      held first n g (tree_from a at) (ghost_from a at n) k
      && link (first + i) (tree_from a at i) f (held_core first n g (tree_from a at) (ghost_from a at n) k)

  unfoldable pub link_of_tree : ℕ → ℕ → Bool
  link_of_tree i f = tree_to i f (neighbour_of (tree_from a at i) f)

  -- and of ghost j
  unfoldable pub ghost_to : ℕ → ℕ → ℕ → ℕ → Bool
  ghost_to K j f k =
      cond (held first n g (tree_from a at) (ghost_from a at n) k)
      (link (number_of (ghost_from a at n j)) (ghost_from a at n j) f (held_core first n g (tree_from a at) (ghost_from a at n) k))
      (ltb k K && orientation_ok (ghost_from a at n j) f)

  unfoldable pub link_of_ghost : ℕ → ℕ → ℕ → Bool
  link_of_ghost K j f = ghost_to K j f (neighbour_of (ghost_from a at n j) f)

  -- tree i, but for what a sound area says of it
  unfoldable pub tree_joins : ℕ → ℕ → Bool
  tree_joins D i = eqb (dimension_of (shape_of (tree_from a at i))) D && all_below (face_count (shape_of (tree_from a at i))) (link_of_tree i)

  -- and ghost j
  unfoldable pub ghost_joins : ℕ → ℕ → ℕ → Bool
  ghost_joins D K j =
      eqb (dimension_of (shape_of (ghost_from a at n j))) D
      && any_below (face_count (shape_of (ghost_from a at n j))) (neighbour_in first (first + n) (ghost_from a at n j))
      && all_below (face_count (shape_of (ghost_from a at n j))) (link_of_ghost K j)

  unfoldable pub records_join : ℕ → ℕ → Bool
  records_join D K = all_below n (tree_joins D) && all_below g (ghost_joins D K)

-- the records in an area's slots are those of a sound part; proofs/Reading.antt: with every due sender heard this is the joined part's soundness
unfoldable pub join_sound : List ℕ → Bool
join_sound a = view_sound (area_first a) (area_count a) (area_ghosts a) (tree_slot_core a) (ghost_slot a) (area_dimension a) (area_k a)

-- a sound area with every due sender heard, and its new table
pub record Complete (a new : List ℕ) : Type 0 where
  pub header : HeaderHolds a
  pub is_new : new ≡ area_new a
  pub sound : area_sound a ≡ true
  pub all : all_heard a ≡ true

-- the records in an area's slots
pub record SlotsOf (a : List ℕ) (x : Records) : Type 0 where
  pub head : x.head ≡ slots_place (area_p a)
  pub tail : x.tail ≡ ghost_slots_place (area_p a) (area_count a)
  pub number : x.first.0 ≡ area_first a
  pub count : x.count ≡ area_count a
  pub ghosts : x.ghosts ≡ area_ghosts a
  pub dimension : x.dimension ≡ area_dimension a
  pub trees : x.trees ≡ area_k a
  pub global : x.local ≡ false

-- the index of an area's ghosts
abbrev pub GhostsIndexed : List ℕ → List ℕ → List ℕ → Type 0
GhostsIndexed a marks behind = Indexed a (ghost_slots_place (area_p a) (area_count a)) (area_ghosts a) marks behind

-- the refusal of the checks that come before the records are joined; 0 where these hold
unfoldable pub early_refusal : List ℕ → ℕ
early_refusal a = cond (area_sound a) (cond (all_heard a) 0 20) 10
