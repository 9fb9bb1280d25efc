-- Means, no part of what is promised: what inner functions require, and values that mirror their code; proofs/ says that these are the definitions.
use Rattle.std.specs.Prelude.{ℕ, ◌+◌, ◌*◌, ◌≤◌, ◌≡◌, true, List, length}
use Rattle.records.specs.Record.{core_size}
use Rattle.part.specs.Layout.{part_size}
use Rattle.area.specs.Area.{area_count, area_ghosts, area_sound}
use Rattle.area.specs.Means.{HeaderHolds}
use Rattle.close_check.specs.Means.{join_sound}

-- count core records from byte from of an area, and room for them at byte to
pub record GhostsRoom (a out : List ℕ) (from count to : ℕ) : Type 0 where
  pub source : from + core_size * count ≤ length a
  pub target : to + core_size * count ≤ length out

-- a sound area whose records are those of a sound part, and room for the part
pub record JoinRoom (a out : List ℕ) : Type 0 where
  pub header : HeaderHolds a
  pub is_sound : area_sound a ≡ true
  pub joined : join_sound a ≡ true
  pub room : part_size (area_count a) (area_ghosts a) ≤ length out
