-- Means, no part of what is promised: a column file as the code reads it, face by face, and trees that are alike.
use Rattle.std.specs.Prelude.{◌≡◌, ℕ, ◌+◌, ◌*◌, ◌%◌, ◌^◌, ◌<◌, ◌≤◌, Bool, true, cond, ◌&&◌, List, ◌==◌, nat_lt, slice_index}
use Rattle.records.specs.Shape.{shape_ok, dimension_of, face_count}
use Rattle.records.specs.Record.{core_size, shape_of, zeros_ok, region_ok}
use Rattle.records.specs.Means.{face_form}
use Rattle.part_check.specs.Means.{tree_numbered, tree_up, tree_down, tree_face}
use Rattle.columns_read.specs.Columns.{spaced}

-- the core of tree i of n, and of ghost j of g, in a column file
unfoldable pub tree_column : List ℕ → ℕ → ℕ → List ℕ
tree_column file n i = spaced file (32 + i) n core_size

unfoldable pub ghost_column : List ℕ → ℕ → ℕ → ℕ → List ℕ
ghost_column file n g j = spaced file (32 + 64 * n + j) g core_size

-- a record has a shape of the dimension, and its bytes outside number and faces are in form
unfoldable pub head_ok : ℕ → List ℕ → Bool
head_ok dimension r = shape_ok (shape_of r) && dimension_of (shape_of r) == dimension && zeros_ok r && region_ok r

-- face f of a record is in form, and its link passes where the shape has the face
unfoldable pub side_ok : ℕ → List ℕ → ℕ → Bool → Bool
side_ok own r f link = face_form own r f && cond (nat_lt f (face_count (shape_of r))) link true

-- a record has face f, and its link passes
unfoldable pub side_has : List ℕ → ℕ → Bool → Bool
side_has r f link = nat_lt f (face_count (shape_of r)) && link

-- the link of face f of tree i, where it has the face, leads up or down
unfoldable pub tree_side_up : ℕ → (ℕ → List ℕ) → ℕ → ℕ → Bool
tree_side_up n tree f i = side_has (tree i) f (tree_up n tree i f)

unfoldable pub tree_side_down : ℕ → (ℕ → List ℕ) → ℕ → ℕ → Bool
tree_side_down n tree f i = side_has (tree i) f (tree_down n tree i f)

module _ (link : ℕ → List ℕ → ℕ → List ℕ → Bool) (first n g : ℕ) (tree ghostly : ℕ → List ℕ) (dimension K : ℕ) where
  -- tree i, its faces apart
  unfoldable pub tree_head : ℕ → Bool
  tree_head i = tree_numbered first tree i && head_ok dimension (tree i)

  -- face f of tree i: a link that leads up isn't followed
  unfoldable pub tree_side : ℕ → ℕ → Bool
  tree_side f i = side_ok i (tree i) f (cond (tree_up n tree i f) true (tree_face link n g tree ghostly i f))

-- the r trees behind tree i are like it in face f: what is found of its link, and where it leads, holds of theirs
pub record SidesAlike (link : ℕ → List ℕ → ℕ → List ℕ → Bool) (first n g : ℕ) (tree ghostly : ℕ → List ℕ) (dimension K f i r : ℕ) : Type 0 where
  pub within : i + r < n
  pub sound : (k : ℕ) → k ≤ r → tree_side link first n g tree ghostly dimension K f (i + k) ≡ tree_side link first n g tree ghostly dimension K f i
  pub up : (k : ℕ) → k ≤ r → tree_side_up n tree f (i + k) ≡ tree_side_up n tree f i
  pub down : (k : ℕ) → k ≤ r → tree_side_down n tree f (i + k) ≡ tree_side_down n tree f i

-- ---- records like another, k of them behind it

-- byte j of record s is that of r
unfoldable pub same_byte : List ℕ → List ℕ → ℕ → Bool
same_byte r s j = slice_index s j == slice_index r j

-- the number of 32 bits at byte j of s is k more than that of r, where the lowest byte has room for that
unfoldable pub counts_on : List ℕ → List ℕ → ℕ → ℕ → Bool
counts_on r s j k = slice_index s j == (slice_index r j + k) % 2 ^ 8 && (same_byte r s (j + 1) && (same_byte r s (j + 2) && same_byte r s (j + 3)))

-- s has r's shape and its code of face f, and the neighbour k behind
unfoldable pub side_like : ℕ → List ℕ → List ℕ → ℕ → Bool
side_like f r s k = counts_on r s (8 + 4 * f) k && (same_byte r s (32 + f) && same_byte r s 4)

-- s has the number k behind r's, and its bytes outside number and faces
unfoldable pub head_like : List ℕ → List ℕ → ℕ → Bool
head_like r s k =
    counts_on r s 0 k && (same_byte r s 4 && (same_byte r s 5 && (same_byte r s 6 && (same_byte r s 7 && (same_byte r s 38 && same_byte r s 39)))))

-- the same of record k behind the one at off
unfoldable pub side_run : List ℕ → ℕ → ℕ → ℕ → ℕ → Bool
side_run bs off step f k = side_like f (spaced bs off step core_size) (spaced bs (off + k) step core_size) k

unfoldable pub head_run : List ℕ → ℕ → ℕ → ℕ → Bool
head_run bs off step k = head_like (spaced bs off step core_size) (spaced bs (off + k) step core_size) k

-- of the first i records behind, those among the first `some` pass, and the lowest byte has room for these
pub record Run (test : ℕ → Bool) (low some i : ℕ) : Type 0 where
  pub few : some ≤ 64
  pub room : (k : ℕ) → 0 < k → k ≤ some → low + k < 256
  pub like : (k : ℕ) → 0 < k → k ≤ i → k ≤ some → test k ≡ true
