-- The ghosts of a rank. core k is the core of tree k with neighbours as global numbers.
use Rattle.std.specs.Prelude.{ℕ, Bool, not, ◌&&◌, List}
use Rattle.encoding.specs.Below.{any_below, count_below, kept_below}
use Rattle.offsets.specs.Table.{holds}
use Rattle.records.specs.Shape.{face_count}
use Rattle.records.specs.Record.{shape_of, neighbour_of}

module _ (core : ℕ → List ℕ) (table : List ℕ) (rank : ℕ) where
  -- a ghost of the rank is a tree outside f(rank) with a face neighbour in f(rank)
  unfoldable pub is_ghost : ℕ → Bool
  is_ghost k = not (holds table rank k) && any_below (face_count (shape_of (core k))) (λ f. holds table rank (neighbour_of (core k) f))

  -- the ghosts among the trees below K, ascending
  unfoldable pub ghosts_of : ℕ → List ℕ
  ghosts_of K = kept_below K is_ghost

  -- the position of ghost k among them, and how many there are
  unfoldable pub ghost_position : ℕ → ℕ
  ghost_position k = count_below k is_ghost
