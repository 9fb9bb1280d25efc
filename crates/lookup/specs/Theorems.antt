-- What is proved of the two calls together.
use Rattle.std.specs.Prelude.{ℕ, ◌+◌, ◌≤◌, ◌≡◌, List, length}
use Rattle.records.specs.Record.{core_size, tree_size}
use Rattle.lookup.specs.Lookup.{lookup_record, found_record, found_piece}

-- the record that lookup lends is the piece at the place that find_record names
pub record LentAsNamed (trees ghosts : List ℕ) (number : ℕ) : Type 0 where
  pub lent : lookup_record trees ghosts number ≡ found_piece trees ghosts (found_record trees ghosts number)
  -- a place among the trees is that of a whole tree record there, one among the ghosts that of a whole core record
  pub in_trees : (found_record trees ghosts number).which ≡ 1 → (found_record trees ghosts number).offset + tree_size ≤ length trees
  pub in_ghosts : (found_record trees ghosts number).which ≡ 2 → (found_record trees ghosts number).offset + core_size ≤ length ghosts

abbrev pub LendsNamed : Type 0
LendsNamed = (trees ghosts : List ℕ) (number : ℕ) → LentAsNamed trees ghosts number
