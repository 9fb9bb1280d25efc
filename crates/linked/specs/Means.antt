-- Means, no part of what is promised: records that stand together, and their links as the code looks at them, from one end. In proofs/FromOneEnd.antt: over all records it is what records_linked says.
use Rattle.std.specs.Prelude.{ℕ, ◌+◌, ◌-◌, ◌*◌, ◌^◌, ◌≤◌, ◌<◌, Bool, true, false, cond, not, ◌&&◌, ◌≡◌, List, leb, ltb, eqb, length}
use Rattle.encoding.specs.Below.{all_below, any_below, count_below, least_below, sum_below}
use Rattle.encoding.specs.Pieces.{piece}
use Rattle.offsets.specs.Limits.{max_trees}
use Rattle.records.specs.Shape.{dimension_of, face_count}
use Rattle.records.specs.Record.{core_size, tree_size, number_of, shape_of, neighbour_of, boundary_ok, in_form}
use Rattle.mesh.specs.Link.{orientation_ok}
use Rattle.mesh.specs.Means.{link_by_dimension}
use Rattle.part.specs.Means.{in_range, neighbour_in, ghost_has}
use Rattle.positions.specs.Means.{Indexed}
use Rattle.ghost_links.specs.Means.{core_from, form_alone, ghost_ups, ghost_downs, ghost_from_one_end}
use Rattle.linked.specs.declared.layout.Records.{Records}

-- where the record with local index b begins: trees first, then ghosts
unfoldable pub record_place : Records → ℕ → ℕ
record_place x b = cond {A = ℕ} (ltb b x.count) (x.head + tree_size * b) (x.tail + core_size * (b - x.count))

module _ (bs : List ℕ) (x : Records) where
  -- tree i and ghost j
  unfoldable pub tree_of : ℕ → List ℕ
  tree_of i = piece bs (x.head + tree_size * i) core_size

  unfoldable pub ghost_of : ℕ → List ℕ
  ghost_of j = core_from bs x.tail j

  -- the neighbour of tree i across face f, as it stands in its record
  unfoldable pub named : ℕ → ℕ → ℕ
  named i f = neighbour_of (tree_of i) f

  -- what a tree's record has for the record with local index b, and the local index of the record that it has v for
  unfoldable pub name_of : ℕ → ℕ
  name_of b = cond x.local b (cond (ltb b x.count) (x.first.0 + b) (number_of (ghost_of (b - x.count))))

  unfoldable pub place_of : ℕ → ℕ
  place_of v = cond x.local v (cond (in_range x.first.0 (x.first.0 + x.count) v) (v - x.first.0) (x.count + least_below x.ghosts (ghost_has ghost_of v)))

  -- tree i has its number
  unfoldable pub tree_numbered : ℕ → Bool
  tree_numbered i = eqb (number_of (tree_of i)) (x.first.0 + i)

  -- ghost j has a number below K, outside the range, above that of the ghost before it
  unfoldable pub ghost_after : ℕ → Bool
  ghost_after j = cond (eqb j 0) true (ltb (number_of (ghost_of (j - 1))) (number_of (ghost_of j)))

  unfoldable pub ghost_numbered : ℕ → Bool
  ghost_numbered j = ltb (number_of (ghost_of j)) x.trees && not (in_range x.first.0 (x.first.0 + x.count) (number_of (ghost_of j))) && ghost_after j

  -- ---- the rule of each link, by its record

  -- the link of face f of tree i to the record with local index b
  unfoldable pub tree_to : ℕ → ℕ → ℕ → Bool
  tree_to i f b =
      cond (ltb b x.count) (link_by_dimension x.dimension (name_of i) (tree_of i) f (tree_of b))
      (cond (ltb (b - x.count) x.ghosts) (link_by_dimension x.dimension (x.first.0 + i) (tree_of i) f (ghost_of (b - x.count))) false)

  unfoldable pub tree_link : ℕ → ℕ → Bool
  tree_link i f = tree_to i f (place_of (named i f))

  -- of face f of ghost j to number k: a tree of the range has the ghost's name, another ghost its number; or k isn't held
  unfoldable pub ghost_to : ℕ → ℕ → ℕ → Bool
  ghost_to j f k =
      cond (in_range x.first.0 (x.first.0 + x.count) k) (link_by_dimension x.dimension (name_of (x.count + j)) (ghost_of j) f (tree_of (k - x.first.0)))
      (cond (any_below x.ghosts (ghost_has ghost_of k)) (link_by_dimension x.dimension (number_of (ghost_of j)) (ghost_of j) f (ghost_of (least_below x.ghosts (ghost_has ghost_of k))))
      (ltb k x.trees && orientation_ok (ghost_of j) f))

  unfoldable pub ghost_link : ℕ → ℕ → Bool
  ghost_link j f = ghost_to j f (neighbour_of (ghost_of j) f)

  -- tree i and ghost j, the ghost's number apart
  unfoldable pub tree_whole : ℕ → Bool
  tree_whole i =
      in_form (name_of i) (tree_of i) && tree_numbered i && eqb (dimension_of (shape_of (tree_of i))) x.dimension && all_below (face_count (shape_of (tree_of i))) (tree_link i)

  unfoldable pub ghost_whole : ℕ → Bool
  ghost_whole j =
      in_form (number_of (ghost_of j)) (ghost_of j) && eqb (dimension_of (shape_of (ghost_of j))) x.dimension
      && any_below (face_count (shape_of (ghost_of j))) (neighbour_in x.first.0 (x.first.0 + x.count) (ghost_of j)) && all_below (face_count (shape_of (ghost_of j))) (ghost_link j)

  unfoldable pub records_linked : Bool
  records_linked = all_below x.count tree_whole && all_below x.ghosts ghost_whole

  -- first every ghost's number, by which links are then looked up
  unfoldable pub records_sound : Bool
  records_sound = all_below x.ghosts ghost_numbered && records_linked

  -- ---- each link looked at from one end, and a count: between a tree and a ghost from the tree, else from the record with the higher number

  -- the link of face f of tree i leads to a higher tree, or to a lower record
  unfoldable pub tree_up : ℕ → ℕ → Bool
  tree_up i f = ltb (name_of i) (named i f) && ltb (named i f) (cond {A = ℕ} x.local x.count (x.first.0 + x.count))

  unfoldable pub tree_down : ℕ → ℕ → Bool
  tree_down i f = not (tree_up i f) && not (eqb (named i f) (name_of i))

  -- a link that doesn't lead up, and its face, obey the rules
  unfoldable pub tree_fits : ℕ → ℕ → Bool
  tree_fits i f = boundary_ok (name_of i) (tree_of i) f && tree_link i f

  unfoldable pub tree_listed : ℕ → ℕ → Bool
  tree_listed i f = not (tree_up i f)

  unfoldable pub tree_face : ℕ → ℕ → Bool
  tree_face i f = cond (tree_listed i f) (tree_fits i f) true

  -- tree i, and how many of its links lead up and down
  unfoldable pub tree_seen : ℕ → Bool
  tree_seen i = tree_numbered i && form_alone x.dimension (tree_of i) && all_below (face_count (shape_of (tree_of i))) (tree_face i)

  unfoldable pub tree_ups : ℕ → ℕ
  tree_ups i = count_below (face_count (shape_of (tree_of i))) (tree_up i)

  unfoldable pub tree_downs : ℕ → ℕ
  tree_downs i = count_below (face_count (shape_of (tree_of i))) (tree_down i)

  -- ghost j
  unfoldable pub ghost_seen : ℕ → Bool
  ghost_seen j = ghost_from_one_end (link_by_dimension x.dimension) x.ghosts ghost_of x.first.0 x.count x.dimension x.trees j

  -- all records, and as many links up as down
  unfoldable pub records_seen : Bool
  records_seen =
      all_below x.count tree_seen && all_below x.ghosts ghost_seen
      && eqb (sum_below x.count tree_ups + sum_below x.ghosts (ghost_ups x.first.0 x.count x.ghosts ghost_of)) (sum_below x.count tree_downs + sum_below x.ghosts (ghost_downs x.ghosts ghost_of))

-- places have 64 bits
pub record Room (x : Records) : Type 0 where
  pub trees : x.head + tree_size * x.count < 2 ^ 64
  pub ghosts : x.tail + core_size * x.ghosts < 2 ^ 64

-- the records stand in the bytes, and the trees' numbers are below the limit
pub record Laid (bs : List ℕ) (x : Records) : Type 0 where
  pub room : Room x
  pub trees : x.head + tree_size * x.count ≤ length bs
  pub ghosts : x.tail + core_size * x.ghosts ≤ length bs
  pub most : x.first.0 + x.count ≤ max_trees

-- and an index of the ghosts
pub record Marked (bs : List ℕ) (x : Records) (marks behind : List ℕ) : Type 0 where
  pub laid : Laid bs x
  pub few : x.ghosts ≤ max_trees
  pub indexed : Indexed bs x.tail x.ghosts marks behind

-- one of the trees, which has its number
pub record TreeKnown (bs : List ℕ) (x : Records) (i : ℕ) : Type 0 where
  pub below : i < x.count
  pub number : tree_numbered bs x i ≡ true

-- the local index of the tree that a tree's record has v for; at least n where it is none
unfoldable pub tree_place : Records → ℕ → ℕ
tree_place x v = cond {A = ℕ} x.local v (cond {A = ℕ} (leb x.first.0 v) (v - x.first.0) x.count)

-- all numbers are below K, and those of the ghosts outside the range
pub record Numbered (bs : List ℕ) (x : Records) : Type 0 where
  pub within : x.first.0 + x.count ≤ x.trees
  pub least : x.trees ≤ max_trees
  pub few : x.ghosts ≤ x.trees
  pub below : (j : ℕ) → j < x.ghosts → number_of (ghost_of bs x j) < x.trees
  pub outside : (j : ℕ) → j < x.ghosts → in_range x.first.0 (x.first.0 + x.count) (number_of (ghost_of bs x j)) ≡ false
  pub ascends : (i j : ℕ) → i < j → j < x.ghosts → number_of (ghost_of bs x i) < number_of (ghost_of bs x j)
