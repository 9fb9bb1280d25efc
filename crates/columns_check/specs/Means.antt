-- Means, no part of what is promised: a column file as the code checks it, face by face, and each link from one end.
use Rattle.std.specs.Prelude.{ℕ, ◌+◌, ◌-◌, ◌*◌, ◌≤◌, ◌<◌, Bool, true, false, cond, ◌&&◌, ◌||◌, ◌≡◌, List, ltb, eqb, length}
use Rattle.std.specs.Prelude.{Some, None}
use Rattle.std.specs.declared.option.Option.{Option}
use Rattle.encoding.specs.Below.{all_below, any_below, count_below, sum_below}
use Rattle.encoding.specs.Numbers.{u32_at}
use Rattle.records.specs.Shape.{face_count}
use Rattle.records.specs.Record.{core_size, shape_of, unused_ok}
use Rattle.part.specs.Means.{neighbour_in}
use Rattle.positions.specs.Means.{Indexed}
use Rattle.ghost_links.specs.Means.{ghost_up, ghost_down, ghost_listed, ghost_low, ghost_answered}
use Rattle.part_check.specs.Means.{ghost_numbered, numbers_sound, PartLaid}
use Rattle.columns_read.specs.Columns.{spaced, rows}
use Rattle.columns_check.specs.declared.sound.Target.{Target}
use Rattle.columns_read.specs.Means.{tree_column, ghost_column, head_ok, side_has, tree_side_up, tree_side_down, tree_head, tree_side}

-- the cores of all g ghosts, one behind the other
unfoldable pub ghost_rows : List ℕ → ℕ → ℕ → List ℕ
ghost_rows file n g = rows file (32 + 64 * n) core_size g g

-- a record hasn't face f, which is marked so, or its link passes
unfoldable pub side_low : List ℕ → ℕ → Bool → Bool
side_low r f link = cond (ltb f (face_count (shape_of r))) link (unused_ok r f)

-- a test of what stands from s on
unfoldable pub from : (ℕ → Bool) → ℕ → ℕ → Bool
from p s m = p (s + m)

-- of ghost j: it leads up, down, or to a ghost that isn't higher
unfoldable pub ghost_side_up : ℕ → ℕ → ℕ → (ℕ → List ℕ) → ℕ → ℕ → Bool
ghost_side_up first n g ghostly f j = side_has (ghostly j) f (ghost_up first n g ghostly j f)

unfoldable pub ghost_side_down : ℕ → (ℕ → List ℕ) → ℕ → ℕ → Bool
ghost_side_down g ghostly f j = side_has (ghostly j) f (ghost_down g ghostly j f)

unfoldable pub ghost_side_listed : ℕ → (ℕ → List ℕ) → ℕ → ℕ → Bool
ghost_side_listed g ghostly f j = side_has (ghostly j) f (ghost_listed g ghostly j f)

-- what face f of ghost j shows without its neighbour
unfoldable pub ghost_side_low : ℕ → (ℕ → List ℕ) → ℕ → ℕ → Bool
ghost_side_low K ghostly f j = side_low (ghostly j) f (ghost_low ghostly K j f)

module _ (link : ℕ → List ℕ → ℕ → List ℕ → Bool) (first n g : ℕ) (tree ghostly : ℕ → List ℕ) (dimension K : ℕ) where
  -- ghost j, its number and its faces apart
  unfoldable pub ghost_head : ℕ → Bool
  ghost_head j = head_ok dimension (ghostly j) && any_below (face_count (shape_of (ghostly j))) (neighbour_in first (first + n) (ghostly j))

  -- face f of ghost j: a link that is listed is followed
  unfoldable pub ghost_side_linked : ℕ → ℕ → Bool
  ghost_side_linked f j = cond (ghost_side_listed g ghostly f j) (ghost_answered link g ghostly j f) true

  unfoldable pub ghost_side : ℕ → ℕ → Bool
  ghost_side f j = ghost_side_low K ghostly f j && ghost_side_linked f j

  -- face f of all records
  unfoldable pub faces_sound : ℕ → Bool
  faces_sound f = all_below n (tree_side link first n g tree ghostly dimension K f) && all_below g (ghost_side f)

  -- how many of them lead up, and down
  unfoldable pub faces_up : ℕ → ℕ
  faces_up f = count_below n (tree_side_up n tree f) + count_below g (ghost_side_up first n g ghostly f)

  unfoldable pub faces_down : ℕ → ℕ
  faces_down f = count_below n (tree_side_down n tree f) + count_below g (ghost_side_down g ghostly f)

  -- every face, and as many lead up as down
  unfoldable pub links_sound : Bool
  links_sound = all_below 6 faces_sound && eqb (sum_below 6 faces_up) (sum_below 6 faces_down)

  -- all records: first every number, by which the links are then looked up
  unfoldable pub columns_found : Bool
  columns_found = (all_below g (ghost_numbered first n ghostly K) && all_below n (tree_head link first n g tree ghostly dimension K)) && (all_below g ghost_head && links_sound)

-- a file by its length and header, with sound numbers
pub record FileNumbered (file : List ℕ) (first n g K : ℕ) : Type 0 where
  pub laid : PartLaid file first n g K
  pub numbers : numbers_sound first n g (tree_column file n) (ghost_column file n g) K ≡ true

-- and the index of its ghosts, with room for every number below K
pub record FileIndexed (file : List ℕ) (first n g K : ℕ) (marks behind : List ℕ) : Type 0 where
  pub numbered : FileNumbered file first n g K
  pub room : K ≤ 64 * length marks
  pub indexed : Indexed (ghost_rows file n g) 0 g marks behind

-- what stands at local index j for tree i of n: what its link back leads to, where it begins and how far its bytes are apart
pub record HeldAs (file : List ℕ) (n g i j : ℕ) (there : Target) : Type 0 where
  pub is : (ltb j n || ltb (j - n) g) ≡ true
  pub leads : there.back ≡ cond (ltb j n) i (u32_at (spaced file (32 + i) n core_size) 0)
  pub place : there.to ≡ cond (ltb j n) (32 + j) (32 + 64 * n + (j - n))
  pub apart : there.gap ≡ cond (ltb j n) n g
  pub fits : there.to + there.gap * 39 < length file

-- the same, where it is held
abbrev pub TargetAs : List ℕ → ℕ → ℕ → ℕ → ℕ → Option Target → Type 0
TargetAs file n g i j None = (ltb j n || ltb (j - n) g) ≡ false
TargetAs file n g i j (Some there) = HeldAs file n g i j there
