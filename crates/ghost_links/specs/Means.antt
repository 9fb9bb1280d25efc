-- Means, no part of what is promised: the links of ghosts as the code looks at them, from one end. Ghosts are below all trees; among ghosts the numbers decide. `ghostly` are the ghosts, g of them; the trees are those from first on, n of them; K numbers in all.
use Rattle.std.specs.Prelude.{ℕ, ◌+◌, ◌*◌, ◌≤◌, Bool, true, cond, ◌&&◌, ◌||◌, List, leb, ltb, eqb, length}
use Rattle.encoding.specs.Below.{all_below, any_below, count_below, least_below}
use Rattle.encoding.specs.Pieces.{piece}
use Rattle.offsets.specs.Limits.{max_trees}
use Rattle.records.specs.Shape.{dimension_of, face_count, shape_ok}
use Rattle.records.specs.Record.{core_size, number_of, shape_of, neighbour_of, region_ok, zeros_ok, boundary_ok}
use Rattle.records.specs.Means.{unused_from}
use Rattle.mesh.specs.Link.{orientation_ok}
use Rattle.part.specs.Means.{in_range, neighbour_in, ghost_has}
use Rattle.positions.specs.Means.{Indexed}

-- core record j of those from byte at
unfoldable pub core_from : List ℕ → ℕ → ℕ → List ℕ
core_from bs at j = piece bs (at + core_size * j) core_size

-- what a record shows without its links
unfoldable pub form_alone : ℕ → List ℕ → Bool
form_alone dimension r =
    shape_ok (shape_of r) && zeros_ok r && region_ok r && all_below 6 (unused_from (face_count (shape_of r)) r) && eqb (dimension_of (shape_of r)) dimension

-- ghost j's link leads to a tree of the range or a higher ghost, to a lower ghost, or to a ghost that isn't higher
unfoldable pub ghost_up : ℕ → ℕ → ℕ → (ℕ → List ℕ) → ℕ → ℕ → Bool
ghost_up first n g ghostly j f =
    in_range first (first + n) (neighbour_of (ghostly j) f) || (any_below g (ghost_has ghostly (neighbour_of (ghostly j) f)) && ltb (number_of (ghostly j)) (neighbour_of (ghostly j) f))

unfoldable pub ghost_down : ℕ → (ℕ → List ℕ) → ℕ → ℕ → Bool
ghost_down g ghostly j f = any_below g (ghost_has ghostly (neighbour_of (ghostly j) f)) && ltb (neighbour_of (ghostly j) f) (number_of (ghostly j))

unfoldable pub ghost_listed : ℕ → (ℕ → List ℕ) → ℕ → ℕ → Bool
ghost_listed g ghostly j f = any_below g (ghost_has ghostly (neighbour_of (ghostly j) f)) && leb (neighbour_of (ghostly j) f) (number_of (ghostly j))

-- how many links of ghost j lead up and down
unfoldable pub ghost_ups : ℕ → ℕ → ℕ → (ℕ → List ℕ) → ℕ → ℕ
ghost_ups first n g ghostly j = count_below (face_count (shape_of (ghostly j))) (ghost_up first n g ghostly j)

unfoldable pub ghost_downs : ℕ → (ℕ → List ℕ) → ℕ → ℕ
ghost_downs g ghostly j = count_below (face_count (shape_of (ghostly j))) (ghost_down g ghostly j)

-- what a link of ghost j shows without its neighbour
unfoldable pub ghost_low : (ℕ → List ℕ) → ℕ → ℕ → ℕ → Bool
ghost_low ghostly K j f = ltb (neighbour_of (ghostly j) f) K && orientation_ok (ghostly j) f

module _ (link : ℕ → List ℕ → ℕ → List ℕ → Bool) (g : ℕ) (ghostly : ℕ → List ℕ) where
  -- the link of ghost j to a ghost obeys the rules
  unfoldable pub ghost_answered : ℕ → ℕ → Bool
  ghost_answered j f =
      boundary_ok (number_of (ghostly j)) (ghostly j) f
      && link (number_of (ghostly j)) (ghostly j) f (ghostly (least_below g (ghost_has ghostly (neighbour_of (ghostly j) f))))

  -- each that is listed does
  unfoldable pub ghost_face_down : ℕ → ℕ → Bool
  ghost_face_down j f = cond (ghost_listed g ghostly j f) (ghost_answered j f) true

  unfoldable pub ghost_from_one_end : ℕ → ℕ → ℕ → ℕ → ℕ → Bool
  ghost_from_one_end first n dimension K j =
      form_alone dimension (ghostly j)
      && (all_below (face_count (shape_of (ghostly j))) (ghost_low ghostly K j) && any_below (face_count (shape_of (ghostly j))) (neighbour_in first (first + n) (ghostly j)))
      && all_below (face_count (shape_of (ghostly j))) (ghost_face_down j)

-- ghosts that stand ascending from byte at, and the index of their numbers, with room for every number below K
pub record GhostsMarked (bs : List ℕ) (at g first n K : ℕ) (marks behind : List ℕ) : Type 0 where
  pub fits : at + core_size * g ≤ length bs
  pub low : first + n ≤ max_trees
  pub room : K ≤ 64 * length marks
  pub indexed : Indexed bs at g marks behind
