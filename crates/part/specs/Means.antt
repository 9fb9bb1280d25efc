-- Means, no part of what is promised: the ghosts of a range, by its first tree and one past its last; the search among ascending records; rows with other neighbours; the soundness of a part as the code finds it, where a ghost's own links are asked.
use Rattle.std.specs.Prelude.{ℕ, ◌+◌, ◌-◌, ◌*◌, ◌≤◌, ◌<◌, Bool, true, cond, not, ◌&&◌, ◌||◌, ◌≡◌, List, [], ◌∷◌, leb, ltb, eqb, length, get_or}
use Rattle.encoding.specs.Numbers.{u32_at}
use Rattle.encoding.specs.Pieces.{piece}
use Rattle.encoding.specs.Below.{all_below, any_below, count_below, least_below}
use Rattle.offsets.specs.Table.{ranks, ranks_ok, valid, holds}
use Rattle.records.specs.Shape.{dimension_of, face_count}
use Rattle.records.specs.Record.{core_size, number_of, shape_of, neighbour_of, in_form}
use Rattle.mesh.specs.Link.{orientation_ok, link_ok}
use Rattle.mesh.specs.Mesh.{face_neighbour}
use Rattle.part.specs.Layout.{tree_place, ghost_place, part_size}
use Rattle.part.specs.Part.{part_dimension, part_k, part_first, part_count, part_ghost_count, stored_ghost, global_tree, part_header_sound}

-- k is in the range
unfoldable pub in_range : ℕ → ℕ → ℕ → Bool
in_range first end k = leb first k && ltb k end

-- the neighbour across face f is in the range
unfoldable pub neighbour_in : ℕ → ℕ → List ℕ → ℕ → Bool
neighbour_in first end r f = in_range first end (neighbour_of r f)

-- tree k is a ghost
unfoldable pub ghost_in : (ℕ → List ℕ) → ℕ → ℕ → ℕ → Bool
ghost_in core first end k = not (in_range first end k) && any_below (face_count (shape_of (core k))) (neighbour_in first end (core k))

-- of the K trees, some tree of f(rank) has k as a face neighbour
unfoldable pub beside_rank : (ℕ → List ℕ) → List ℕ → ℕ → ℕ → ℕ → Bool
beside_rank core table rank K k = any_below K (λ n. holds table rank n && face_neighbour core n k)

-- the number of core record i of those from byte at
unfoldable pub number_at : List ℕ → ℕ → ℕ → ℕ
number_at bs at i = u32_at bs (at + core_size * i)

-- count core records from byte at, their numbers ascending
pub record Ascending (bs : List ℕ) (at count : ℕ) : Type 0 where
  pub fits : at + core_size * count ≤ length bs
  pub ascends : (i j : ℕ) → i < j → j < count → number_at bs at i < number_at bs at j

-- how many of them have a number below this one: the position of the number
unfoldable pub smaller : List ℕ → ℕ → ℕ → ℕ → ℕ
smaller bs at count number = count_below count (λ i. ltb (number_at bs at i) number)

-- a row with another neighbour, and six of them
unfoldable pub row_with : (ℕ → ℕ) → List ℕ → List ℕ
row_with rename row = rename (get_or row 0 0) ∷ get_or row 1 0 ∷ get_or row 2 0 ∷ []

unfoldable pub rows_with : (ℕ → ℕ) → List (List ℕ) → List (List ℕ)
rows_with rename rows =
    row_with rename (get_or rows 0 []) ∷ row_with rename (get_or rows 1 []) ∷ row_with rename (get_or rows 2 []) ∷ row_with rename (get_or rows 3 []) ∷ row_with rename (get_or rows 4 []) ∷ row_with rename (get_or rows 5 []) ∷ []

-- where the record with local index j of a part with n trees begins: trees first, then ghosts
unfoldable pub record_place : ℕ → ℕ → ℕ
record_place n j = cond {A = ℕ} (ltb j n) (tree_place j) (ghost_place n (j - n))

-- ghost j of a part with n trees
unfoldable pub ghost_core : List ℕ → ℕ → ℕ → List ℕ
ghost_core part n j = piece part (ghost_place n j) core_size

-- ghost j has number k
unfoldable pub ghost_has : (ℕ → List ℕ) → ℕ → ℕ → Bool
ghost_has ghostly k j = eqb (number_of (ghostly j)) k

-- a valid table and a rank of it
pub record RankKnown (table : List ℕ) (rank : ℕ) : Type 0 where
  pub counted : ranks_ok table ≡ true
  pub checked : valid table ≡ true
  pub below : rank < ranks table

-- ---- the soundness of a part as the code finds it: over the first tree, n, g, and the cores of trees and ghosts with neighbours as global numbers

-- tree i and ghost j are cores; the trees are those from first on
module _ (first n g : ℕ) (tree ghostly : ℕ → List ℕ) where
  -- k is one of the trees
  unfoldable pub is_local : ℕ → Bool
  is_local k = leb first k && ltb k (first + n)

  -- ghost j has number k
  unfoldable pub ghost_is : ℕ → ℕ → Bool
  ghost_is k j = eqb (number_of (ghostly j)) k

  -- the record with number k is held, as a tree or as a ghost
  unfoldable pub held : ℕ → Bool
  held k = is_local k || any_below g (ghost_is k)

  -- that record
  unfoldable pub held_core : ℕ → List ℕ
  held_core k = cond (is_local k) (tree (k - first)) (ghostly (least_below g (ghost_is k)))

  -- a tree's link leads to a record held and obeys the whole mesh rule; a tree's neighbours outside f(p) are thereby ghosts
  unfoldable pub tree_link : ℕ → ℕ → Bool
  tree_link k f = held (neighbour_of (held_core k) f) && link_ok held_core k f

  -- a ghost's link to a record held, itself included, obeys the whole mesh rule; one to a tree not held has a number below K, outside f(p) since f(p) is held, and an orientation below the corners of its own face
  unfoldable pub ghost_link : ℕ → ℕ → ℕ → Bool
  ghost_link K k f =
      cond (held (neighbour_of (held_core k) f)) (link_ok held_core k f) (ltb (neighbour_of (held_core k) f) K && orientation_ok (held_core k) f)

  -- tree i: in form, in order, a shape of the dimension, and each face that the shape has
  unfoldable pub local_sound : ℕ → ℕ → Bool
  local_sound dimension i =
      in_form (first + i) (tree i) && eqb (number_of (tree i)) (first + i) && eqb (dimension_of (shape_of (tree i))) dimension
      && all_below (face_count (shape_of (tree i))) (tree_link (first + i))

  -- ghosts ascend by global number
  unfoldable pub ghost_after : ℕ → Bool
  ghost_after j = cond (eqb j 0) true (ltb (number_of (ghostly (j - 1))) (number_of (ghostly j)))

  -- ghost j has a face neighbour among the trees; its link there is answered, so it is a neighbour of a tree
  unfoldable pub ghost_beside : ℕ → Bool
  ghost_beside j = any_below (face_count (shape_of (ghostly j))) (λ f. is_local (neighbour_of (ghostly j) f))

  -- ghost j: in form, below K, outside f(p), behind the ghost before it, a shape of the dimension, beside a tree, and each face that the shape has
  unfoldable pub ghost_sound : ℕ → ℕ → ℕ → Bool
  ghost_sound dimension K j =
      in_form (number_of (ghostly j)) (ghostly j) && ltb (number_of (ghostly j)) K && not (is_local (number_of (ghostly j))) && ghost_after j
      && eqb (dimension_of (shape_of (ghostly j))) dimension && ghost_beside j && all_below (face_count (shape_of (ghostly j))) (ghost_link K (number_of (ghostly j)))

  -- the records of a part are sound
  unfoldable pub view_sound : ℕ → ℕ → Bool
  view_sound dimension K = all_below n (local_sound dimension) && all_below g (ghost_sound dimension K)

-- the part is sound so
unfoldable pub part_linked : List ℕ → List ℕ → ℕ → Bool
part_linked part table rank =
    part_header_sound part table rank && eqb (length part) (part_size (part_count part) (part_ghost_count part))
    && view_sound (part_first part) (part_count part) (part_ghost_count part) (global_tree part) (stored_ghost part) (part_dimension part) (part_k part)
