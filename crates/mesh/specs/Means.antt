-- Means, no part of what is promised: the rule of a link between two records, and the same read by the dimension. In proofs/ByDimension.antt: where all records have the dimension, the two say the same.
use Rattle.std.specs.Prelude.{ℕ, zero, suc, ◌+◌, ◌*◌, ◌/◌, ◌%◌, ◌≤◌, ◌≡◌, Bool, true, false, cond, ◌&&◌, List, Some, None, ltb, leb, eqb}
use Rattle.std.specs.declared.option.Option.{Option}
use Rattle.encoding.specs.Below.{all_below, count_below, sum_below}
use Rattle.records.specs.Shape.{shape_ok, dimension_of, face_count, faces_in, corners}
use Rattle.records.specs.Record.{number_of, shape_of, neighbour_of, code_of, region_ok, zeros_ok, boundary_ok, in_form}
use Rattle.records.specs.Means.{unused_from}
use Rattle.mesh.specs.Link.{orientation_ok, same_corners, answered}
use Rattle.mesh.specs.declared.sound.Counts.{Counts}
use Rattle.mesh.specs.declared.sound.Links.{Links}
use Rattle.mesh.specs.declared.sound.Run.{Run}

-- both faces have as many corners, and the orientation is below these
unfoldable pub corners_fit : ℕ → ℕ → ℕ → ℕ → ℕ → Bool
corners_fit orientation s f other there = ltb orientation (corners s f) && eqb (corners s f) (corners other there)

-- face and orientation read off the code by F of the dimension
unfoldable pub corners_by_dimension : ℕ → List ℕ → ℕ → List ℕ → Bool
corners_by_dimension d r f s = corners_fit (code_of r f / faces_in d) (shape_of r) f (shape_of s) (code_of r f % faces_in d)

-- the link of the neighbour s on its face g leads back to k, its code is the own one, c, with f for g
unfoldable pub answered_there : ℕ → ℕ → ℕ → List ℕ → ℕ → Bool
answered_there k c f s g = eqb (neighbour_of s g) k && eqb (code_of s g + g) (c + f)

unfoldable pub answered_by_dimension : ℕ → ℕ → List ℕ → ℕ → List ℕ → Bool
answered_by_dimension d k r f s = answered_there k (code_of r f) f s (code_of r f % faces_in d)

-- the rule of a link between two records; the neighbour's link leads back to this number, as it stands there
unfoldable pub link_between : ℕ → List ℕ → ℕ → List ℕ → Bool
link_between back r f s = orientation_ok r f && same_corners r f s && answered back r f s

-- the same, read by the dimension
unfoldable pub link_by_dimension : ℕ → ℕ → List ℕ → ℕ → List ℕ → Bool
link_by_dimension d back r f s = corners_by_dimension d r f s && answered_by_dimension d back r f s

unfoldable pub face_by_dimension : (ℕ → List ℕ) → ℕ → ℕ → ℕ → ℕ → Bool
face_by_dimension core d K k f = ltb (neighbour_of (core k) f) K && link_by_dimension d k (core k) f (core (neighbour_of (core k) f))

unfoldable pub tree_by_dimension : (ℕ → List ℕ) → ℕ → ℕ → ℕ → Bool
tree_by_dimension core d K k =
    in_form k (core k) && eqb (number_of (core k)) k && eqb (dimension_of (shape_of (core k))) d && all_below (face_count (shape_of (core k))) (face_by_dimension core d K k)

-- a face that the shape has, in dimension 3: its form and its link
unfoldable pub face_passes : (ℕ → List ℕ) → ℕ → ℕ → ℕ → Bool
face_passes core K k f = boundary_ok k (core k) f && face_by_dimension core 3 K k f

-- ---- each link looked at from the end with the higher number, and a count. In proofs/FromAbove.antt: over all trees it is what tree_sound says

-- the link of face f leads to a tree with a higher number, or a lower one
unfoldable pub leads_up : (ℕ → List ℕ) → ℕ → ℕ → Bool
leads_up core k f = ltb k (neighbour_of (core k) f)

unfoldable pub leads_down : (ℕ → List ℕ) → ℕ → ℕ → Bool
leads_down core k f = ltb (neighbour_of (core k) f) k

-- how many links of tree k do
unfoldable pub links_up : (ℕ → List ℕ) → ℕ → ℕ
links_up core k = count_below (face_count (shape_of (core k))) (leads_up core k)

unfoldable pub links_down : (ℕ → List ℕ) → ℕ → ℕ
links_down core k = count_below (face_count (shape_of (core k))) (leads_down core k)

-- what no link shows
unfoldable pub alone_by_dimension : ℕ → ℕ → List ℕ → Bool
alone_by_dimension d k r = shape_ok (shape_of r) && zeros_ok r && region_ok r && eqb (number_of r) k && eqb (dimension_of (shape_of r)) d

-- a face that the shape has: a link up leads to a tree, any other obeys the rules
unfoldable pub face_from_above : (ℕ → List ℕ) → ℕ → ℕ → ℕ → ℕ → Bool
face_from_above core d K k f =
    cond (leads_up core k f) (ltb (neighbour_of (core k) f) K) (boundary_ok k (core k) f && link_by_dimension d k (core k) f (core (neighbour_of (core k) f)))

-- the two halves of that, so that links down can be listed first: each link leads to a tree, each that doesn't lead up obeys the rules
unfoldable pub leads_inside : (ℕ → List ℕ) → ℕ → ℕ → ℕ → Bool
leads_inside core K k f = ltb (neighbour_of (core k) f) K

unfoldable pub down_sound : (ℕ → List ℕ) → ℕ → ℕ → ℕ → Bool
down_sound core d k f = boundary_ok k (core k) f && link_by_dimension d k (core k) f (core (neighbour_of (core k) f))

unfoldable pub listed_sound : (ℕ → List ℕ) → ℕ → ℕ → ℕ → Bool
listed_sound core d k f = cond (leads_up core k f) true (down_sound core d k f)

unfoldable pub listed_link : (ℕ → List ℕ) → ℕ → ℕ → Bool
listed_link core k f = leb (neighbour_of (core k) f) k

-- the numbers below n that pass p, each one more than itself, as digits to base 8
unfoldable pub packed : ℕ → (ℕ → Bool) → ℕ
packed zero p = 0
packed (suc f) p = cond (p f) (8 * packed f p + (f + 1)) (packed f p)

unfoldable pub tree_from_above : (ℕ → List ℕ) → ℕ → ℕ → ℕ → Bool
tree_from_above core d K k =
    alone_by_dimension d k (core k) && all_below 6 (unused_from (face_count (shape_of (core k))) (core k)) && all_below (face_count (shape_of (core k))) (face_from_above core d K k)

-- all trees, and as many links up as down
unfoldable pub trees_from_above : (ℕ → List ℕ) → ℕ → ℕ → Bool
trees_from_above core d K = all_below K (tree_from_above core d K) && eqb (sum_below K (links_up core)) (sum_below K (links_down core))

-- so many links up and down, each no more than most
pub record CountsAs (up down most : ℕ) (seen : Counts) : Type 0 where
  pub upward : seen.ups ≡ up
  pub downward : seen.downs ≡ down
  pub few : (seen.ups ≤ most) × (seen.downs ≤ most)

-- what a look at records or faces answers: the links up and down where the test passes, none where it fails
abbrev pub SeenAs : Bool → ℕ → ℕ → ℕ → Option Counts → Type 0
SeenAs test up down most None = test ≡ false
SeenAs test up down most (Some seen) = (test ≡ true) × CountsAs up down most seen

-- the same of one record, and the list of those that don't lead up
abbrev pub SortedAs : Bool → ℕ → ℕ → ℕ → Option Links → Type 0
SortedAs test up down list None = test ≡ false
SortedAs test up down list (Some links) = (test ≡ true) × CountsAs up down 6 links.counts × (links.list ≡ list)

-- a loop over the faces that has come to face f: those before it pass, and so many of them lead up and down
pub record FacesAs (test up down : ℕ → Bool) (f ups downs : ℕ) : Type 0 where
  pub passed : all_below f test ≡ true
  pub upward : (ups ≡ count_below f up) × (ups ≤ f)
  pub downward : (downs ≡ count_below f down) × (downs ≤ f)

-- the records before `next` pass, and have so many links up and down
pub record Reached (test : ℕ → Bool) (up down : ℕ → ℕ) (next ups downs : ℕ) : Type 0 where
  pub passed : all_below next test ≡ true
  pub upward : ups ≡ sum_below next up
  pub downward : downs ≡ sum_below next down

-- a run over n records goes on from `start` to `end`
pub record RunAs (test : ℕ → Bool) (up down : ℕ → ℕ) (n : ℕ) (start end : Run) : Type 0 where
  pub on : start.next ≤ end.next
  pub within : end.next ≤ n
  pub few : (end.seen.ups ≤ 6 * end.next) × (end.seen.downs ≤ 6 * end.next)
  pub reaches : Reached test up down start.next start.seen.ups start.seen.downs → Reached test up down end.next end.seen.ups end.seen.downs
