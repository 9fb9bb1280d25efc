-- A message: epoch, dimension, K, P, sender, receiver, tree count, ghost count (each u32); trees; ghosts; neighbours as global numbers, ghosts ascending, no tree data with ghosts.
use Rattle.std.specs.Prelude.{ℕ, ◌+◌, ◌-◌, ◌*◌, Bool, true, cond, ◌&&◌, List, ltb, eqb, length}
use Rattle.encoding.specs.Below.{all_below}
use Rattle.encoding.specs.Header.{eight_bytes}
use Rattle.encoding.specs.Numbers.{u32_at}
use Rattle.encoding.specs.Pieces.{piece}
use Rattle.records.specs.Shape.{dimension_of, face_count}
use Rattle.records.specs.Record.{core_size, tree_size, number_of, shape_of, neighbour_of, in_form}
use Rattle.mesh.specs.Mesh.{dimension_ok}

abbrev pub message_header : ℕ
message_header = 32

-- where tree i, and ghost j of a message with n trees, begin
abbrev pub message_tree_place : ℕ → ℕ
message_tree_place i = message_header + tree_size * i

abbrev pub message_ghost_place : ℕ → ℕ → ℕ
message_ghost_place n j = message_header + (tree_size * n + core_size * j)

-- the bytes of a message with n trees and g ghosts
abbrev pub message_size : ℕ → ℕ → ℕ
message_size n g = message_ghost_place n g

-- the header
unfoldable pub message_header_bytes : ℕ → ℕ → ℕ → ℕ → ℕ → ℕ → ℕ → ℕ → List ℕ
message_header_bytes epoch dimension K P sender receiver n g = eight_bytes epoch dimension K P sender receiver n g

module _ (m : List ℕ) where
  unfoldable pub message_epoch : ℕ
  message_epoch = u32_at m 0

  unfoldable pub message_dimension : ℕ
  message_dimension = u32_at m 4

  -- K
  unfoldable pub message_k : ℕ
  message_k = u32_at m 8

  -- P
  unfoldable pub message_p : ℕ
  message_p = u32_at m 12

  unfoldable pub message_sender : ℕ
  message_sender = u32_at m 16

  unfoldable pub message_receiver : ℕ
  message_receiver = u32_at m 20

  unfoldable pub message_trees : ℕ
  message_trees = u32_at m 24

  unfoldable pub message_ghosts : ℕ
  message_ghosts = u32_at m 28

  -- the core of tree i, and ghost j
  unfoldable pub message_tree : ℕ → List ℕ
  message_tree i = piece m (message_tree_place i) core_size

  unfoldable pub message_ghost : ℕ → List ℕ
  message_ghost j = piece m (message_ghost_place message_trees j) core_size

  -- a record in form, with a shape of the dimension and neighbours of used faces below the message's K
  unfoldable pub record_laid : List ℕ → Bool
  record_laid r =
      in_form (number_of r) r && eqb (dimension_of (shape_of r)) message_dimension && all_below (face_count (shape_of r)) (λ f. ltb (neighbour_of r f) message_k)

  -- the header's dimension and the exact length
  unfoldable pub size_laid : Bool
  size_laid = dimension_ok message_dimension && eqb (length m) (message_size message_trees message_ghosts)

-- record i of a list of records has a larger number than the one before it
unfoldable pub after_last : (ℕ → List ℕ) → ℕ → Bool
after_last r i = cond (eqb i 0) true (ltb (number_of (r (i - 1))) (number_of (r i)))

-- count records, each laid out so, strictly ascending
unfoldable pub records_laid : List ℕ → ℕ → (ℕ → List ℕ) → Bool
records_laid m count r = all_below count (λ i. record_laid m (r i) && after_last r i)

-- the message is in layout
unfoldable pub in_layout : List ℕ → Bool
in_layout m = size_laid m && records_laid m (message_trees m) (message_tree m) && records_laid m (message_ghosts m) (message_ghost m)
