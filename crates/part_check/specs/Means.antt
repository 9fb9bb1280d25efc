-- Means, no part of what is promised: a part as the code checks it, over the records as they stand.
use Rattle.std.specs.Prelude.{ℕ, ◌+◌, ◌-◌, ◌≤◌, ◌<◌, Bool, true, false, cond, not, ◌&&◌, ◌≡◌, List, ltb, eqb, length}
use Rattle.encoding.specs.Below.{all_below, any_below, count_below, least_below, sum_below}
use Rattle.offsets.specs.Limits.{max_trees}
use Rattle.records.specs.Shape.{dimension_of, face_count}
use Rattle.records.specs.Record.{number_of, shape_of, neighbour_of, boundary_ok, in_form}
use Rattle.records.specs.Means.{alike_form}
use Rattle.mesh.specs.Link.{orientation_ok}
use Rattle.part.specs.Layout.{part_size}
use Rattle.part.specs.Part.{stored_tree}
use Rattle.ghost_links.specs.Means.{form_alone, ghost_ups, ghost_downs, ghost_from_one_end}
use Rattle.part.specs.Means.{in_range, neighbour_in, ghost_core, ghost_has}

-- the trees of a part as they stand, their neighbours as local indices; by either rule of a link
module _ (link : ℕ → List ℕ → ℕ → List ℕ → Bool) (n g : ℕ) (tree ghostly : ℕ → List ℕ) where
  -- the link of face f of tree i to local index j: a tree's link leads back to the local index i, a ghost's to the tree's number
  unfoldable pub tree_to : ℕ → ℕ → ℕ → Bool
  tree_to i f j =
      cond (ltb j n) (link i (tree i) f (tree j))
      (cond (ltb (j - n) g) (link (number_of (tree i)) (tree i) f (ghostly (j - n))) false)

  unfoldable pub tree_face : ℕ → ℕ → Bool
  tree_face i f = tree_to i f (neighbour_of (tree i) f)

  -- and the face is in form
  unfoldable pub tree_fits : ℕ → ℕ → Bool
  tree_fits i f = boundary_ok i (tree i) f && tree_face i f

  -- tree i, its number apart
  unfoldable pub tree_stored : ℕ → ℕ → Bool
  tree_stored dimension i =
      in_form i (tree i) && eqb (dimension_of (shape_of (tree i))) dimension && all_below (face_count (shape_of (tree i))) (tree_face i)

-- tree i has its number
unfoldable pub tree_numbered : ℕ → (ℕ → List ℕ) → ℕ → Bool
tree_numbered first tree i = eqb (number_of (tree i)) (first + i)

-- ghost j has a number above that of the ghost before it
unfoldable pub ghost_behind : (ℕ → List ℕ) → ℕ → Bool
ghost_behind ghostly j = cond (eqb j 0) true (ltb (number_of (ghostly (j - 1))) (number_of (ghostly j)))

-- and one below K, outside the range
unfoldable pub ghost_numbered : ℕ → ℕ → (ℕ → List ℕ) → ℕ → ℕ → Bool
ghost_numbered first n ghostly K j =
    ltb (number_of (ghostly j)) K && not (in_range first (first + n) (number_of (ghostly j))) && ghost_behind ghostly j

-- every number
unfoldable pub numbers_sound : ℕ → ℕ → ℕ → (ℕ → List ℕ) → (ℕ → List ℕ) → ℕ → Bool
numbers_sound first n g tree ghostly K = all_below n (tree_numbered first tree) && all_below g (ghost_numbered first n ghostly K)

-- the ghosts of a part, and all its records
module _ (link : ℕ → List ℕ → ℕ → List ℕ → Bool) (first n g : ℕ) (tree ghostly : ℕ → List ℕ) where
  -- the link of face f of ghost j to tree k: one of the range leads back to the ghost's local index, another ghost to its number; or k isn't held
  unfoldable pub ghost_to : ℕ → ℕ → ℕ → ℕ → Bool
  ghost_to K j f k =
      cond (in_range first (first + n) k) (link (n + j) (ghostly j) f (tree (k - first)))
      (cond (any_below g (ghost_has ghostly k)) (link (number_of (ghostly j)) (ghostly j) f (ghostly (least_below g (ghost_has ghostly k))))
      (ltb k K && orientation_ok (ghostly j) f))

  unfoldable pub ghost_face : ℕ → ℕ → ℕ → Bool
  ghost_face K j f = ghost_to K j f (neighbour_of (ghostly j) f)

  -- ghost j, its number apart
  unfoldable pub ghost_stored : ℕ → ℕ → ℕ → Bool
  ghost_stored dimension K j =
      in_form (number_of (ghostly j)) (ghostly j) && eqb (dimension_of (shape_of (ghostly j))) dimension
      && any_below (face_count (shape_of (ghostly j))) (neighbour_in first (first + n) (ghostly j)) && all_below (face_count (shape_of (ghostly j))) (ghost_face K j)

  -- all records: first every number, by which the links are then looked up
  unfoldable pub records_sound : ℕ → ℕ → Bool
  records_sound dimension K = numbers_sound first n g tree ghostly K && (all_below n (tree_stored link n g tree ghostly dimension) && all_below g (ghost_stored dimension K))

-- ---- each link looked at from one end, and a count. Ghosts are below all trees; among trees and among ghosts the numbers decide. The tests of ghosts are ghost_links'. In proofs/FromOneEnd.antt: over all records it is what records_sound says

-- the link of face f of tree i leads to a higher tree, or to a lower record
unfoldable pub tree_up : ℕ → (ℕ → List ℕ) → ℕ → ℕ → Bool
tree_up n tree i f = ltb i (neighbour_of (tree i) f) && ltb (neighbour_of (tree i) f) n

unfoldable pub tree_down : ℕ → (ℕ → List ℕ) → ℕ → ℕ → Bool
tree_down n tree i f = not (tree_up n tree i f) && not (eqb (neighbour_of (tree i) f) i)

-- how many links of tree i do
unfoldable pub tree_ups : ℕ → (ℕ → List ℕ) → ℕ → ℕ
tree_ups n tree i = count_below (face_count (shape_of (tree i))) (tree_up n tree i)

unfoldable pub tree_downs : ℕ → (ℕ → List ℕ) → ℕ → ℕ
tree_downs n tree i = count_below (face_count (shape_of (tree i))) (tree_down n tree i)

-- as many links lead up as down
unfoldable pub even_links : ℕ → ℕ → ℕ → (ℕ → List ℕ) → (ℕ → List ℕ) → Bool
even_links first n g tree ghostly =
    eqb (sum_below n (tree_ups n tree) + sum_below g (ghost_ups first n g ghostly)) (sum_below n (tree_downs n tree) + sum_below g (ghost_downs g ghostly))

module _ (link : ℕ → List ℕ → ℕ → List ℕ → Bool) (n g : ℕ) (tree ghostly : ℕ → List ℕ) where
  -- a tree's link that doesn't lead up obeys the rules
  unfoldable pub tree_face_down : ℕ → ℕ → Bool
  tree_face_down i f = cond (tree_up n tree i f) true (tree_fits link n g tree ghostly i f)

  unfoldable pub tree_from_one_end : ℕ → ℕ → Bool
  tree_from_one_end dimension i = form_alone dimension (tree i) && all_below (face_count (shape_of (tree i))) (tree_face_down i)

module _ (link : ℕ → List ℕ → ℕ → List ℕ → Bool) (first n g : ℕ) (tree ghostly : ℕ → List ℕ) where
  -- tree i and its number
  unfoldable pub tree_seen : ℕ → ℕ → Bool
  tree_seen dimension i = tree_numbered first tree i && tree_from_one_end link n g tree ghostly dimension i

  -- all records
  unfoldable pub records_from_one_end : ℕ → ℕ → Bool
  records_from_one_end dimension K =
      all_below g (ghost_numbered first n ghostly K) && (all_below n (tree_seen dimension) && (all_below g (ghost_from_one_end link g ghostly first n dimension K) && even_links first n g tree ghostly))

-- a part of n trees from the first on and g ghosts, by its length and header
pub record PartLaid (part : List ℕ) (first n g K : ℕ) : Type 0 where
  pub long : length part ≡ part_size n g
  pub within : first + n ≤ K
  pub most : K ≤ max_trees

-- and its numbers are sound
pub record PartNumbered (part : List ℕ) (first n g K : ℕ) : Type 0 where
  pub laid : PartLaid part first n g K
  pub numbers : numbers_sound first n g (stored_tree part) (ghost_core part n) K ≡ true

-- a part whose local indices and numbers have 32 bits
pub record PartCounted (part : List ℕ) (first n g : ℕ) : Type 0 where
  pub long : length part ≡ part_size n g
  pub low : first + n ≤ max_trees
  pub few : g ≤ max_trees

-- one of its trees, which has its number
pub record TreeKnown (part : List ℕ) (first n i : ℕ) : Type 0 where
  pub below : i < n
  pub number : tree_numbered first (stored_tree part) i ≡ true

-- a part of n trees from the first on and g ghosts, by its length, and a tree of it that is a hexahedron with its number
pub record Hexahedron (part : List ℕ) (first n g i : ℕ) : Type 0 where
  pub long : length part ≡ part_size n g
  pub low : first + n ≤ max_trees
  pub below : i < n
  pub plain : alike_form 2 6 (first + i) (stored_tree part i) ≡ true
