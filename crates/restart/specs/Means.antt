-- Means, no part of what is promised: what is known of a table.
use Rattle.std.specs.Prelude.{ℕ, ◌≡◌, true, List}
use Rattle.offsets.specs.Table.{ranks_ok, valid}

-- a valid table
pub record ValidTable (table : List ℕ) : Type 0 where
  pub counted : ranks_ok table ≡ true
  pub checked : valid table ≡ true
