-- Means, no part of what is promised: what inner functions require, and values that mirror their code; proofs/ says that these are the definitions.
use Rattle.std.specs.Prelude.{ℕ, ◌+◌, ◌*◌, ◌≤◌, ◌<◌, ◌≡◌, Bool, true, not, ◌&&◌, ◌||◌, List, eqb, length}
use Rattle.encoding.specs.Below.{any_below}
use Rattle.encoding.specs.Pieces.{piece}
use Rattle.offsets.specs.Table.{table_length, holds}
use Rattle.bits.specs.Bits.{in_set}
use Rattle.records.specs.Shape.{face_count}
use Rattle.records.specs.Record.{core_size, number_of, shape_of, neighbour_of}
use Rattle.part.specs.Means.{number_at}
use Rattle.message.specs.Layout.{message_k, message_trees, message_ghosts, message_tree, message_ghost, in_layout}
use Rattle.area.specs.Area.{area_k, area_sound}
use Rattle.area.specs.Means.{HeaderHolds}

-- a sound area, and a message in layout of as many trees
pub record Checkable (a m : List ℕ) : Type 0 where
  pub header : HeaderHolds a
  pub sound : area_sound a ≡ true
  pub laid : in_layout m ≡ true
  pub same_trees : message_k m ≡ area_k a

-- ---- neighbours of the message's trees as a set

-- k is across one of the first n faces of record r
unfoldable pub across_faces : List ℕ → ℕ → ℕ → Bool
across_faces r n k = any_below n (λ f. eqb (neighbour_of r f) k)

-- k is across a used face of one of the first n trees
unfoldable pub beside_first : List ℕ → ℕ → ℕ → Bool
beside_first m n k = any_below n (λ i. across_faces (message_tree m i) (face_count (shape_of (message_tree m i))) k)

-- the members are those before and what passes the test
pub record Marked (ws₀ : List ℕ) (test : ℕ → Bool) (ws : List ℕ) : Type 0 where
  pub same_length : length ws ≡ length ws₀
  pub members : (k : ℕ) → in_set ws k ≡ (in_set ws₀ k || test k)

-- the record at byte `at`, whose first faces lead to numbers that the set can hold
pub record FacesFit (m : List ℕ) (at faces : ℕ) (ws : List ℕ) : Type 0 where
  pub fits : at + core_size ≤ length m
  pub few : faces ≤ 6
  pub low : (f : ℕ) → f < faces → neighbour_of (piece m at core_size) f < 64 * length ws

-- a message in layout, whose trees' neighbours the set can hold
pub record TreesFit (m ws : List ℕ) : Type 0 where
  pub laid : in_layout m ≡ true
  pub room : message_k m ≤ 64 * length ws

-- ghost j is outside the rank's range, and beside one of the message's trees
unfoldable pub ghost_beside : List ℕ → ℕ → List ℕ → ℕ → Bool
ghost_beside new rank m j = not (holds new rank (number_of (message_ghost m j))) && beside_first m (message_trees m) (number_of (message_ghost m j))

-- what the pass over the message's ghosts reads: a rank of a table, and the neighbours of the message's trees
pub record Beside (new m ws : List ℕ) (rank : ℕ) : Type 0 where
  pub laid : in_layout m ≡ true
  pub long : table_length (rank + 1) ≤ length new
  pub room : message_k m ≤ 64 * length ws
  pub members : (k : ℕ) → in_set ws k ≡ beside_first m (message_trees m) k

-- ---- ghosts already held

-- one of count core records from byte `at` has number k
unfoldable pub held_at : List ℕ → ℕ → ℕ → ℕ → Bool
held_at a at count k = any_below count (λ j. eqb (number_at a at j) k)

-- those records, whose numbers the set can hold
pub record HeldFit (a : List ℕ) (at count : ℕ) (ws : List ℕ) : Type 0 where
  pub fits : at + core_size * count ≤ length a
  pub low : (i : ℕ) → i < count → number_at a at i < 64 * length ws

-- a message in layout, whose ghosts' numbers the set can hold
pub record GhostsFit (m ws : List ℕ) : Type 0 where
  pub laid : in_layout m ≡ true
  pub low : (j : ℕ) → j < message_ghosts m → number_of (message_ghost m j) < 64 * length ws
