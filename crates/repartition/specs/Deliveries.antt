-- Deliveries of any bytes: F ghosts for each filled tree slot are enough, so no delivery can run out of ghost slots.
use Rattle.std.specs.Prelude.{ℕ, ◌*◌, ◌^◌, ◌≤◌, ◌<◌, true, ◌≡◌, List}
use Rattle.encoding.specs.Pieces.{Bytes}
use Rattle.records.specs.Shape.{faces_in}
use Rattle.area_open.specs.Calls.{open_area_of}
use Rattle.area.specs.Area.{area_dimension, area_count, area_ghosts, filled_slots, area_sound}
use Rattle.deliver_all.specs.Messages.{area_after_each}
use Rattle.repartition.specs.Lists.{AllIn}

-- a sound area with at most F ghosts for each filled tree slot, and so at most F × n
pub record GhostsBounded (a : List ℕ) : Type 0 where
  pub sound : area_sound a ≡ true
  pub few : area_ghosts a ≤ faces_in (area_dimension a) * filled_slots a
  pub within : faces_in (area_dimension a) * filled_slots a ≤ faces_in (area_dimension a) * area_count a

-- from an area that an accepted open wrote, into any buffer, after every list of deliveries of any bytes
abbrev pub EnoughSlots : Type 0
EnoughSlots =
    (old new : List ℕ) (rank dimension epoch : ℕ) (out : List ℕ) → Bytes old → Bytes new → Bytes out → epoch < 2 ^ 32
    → (open_area_of old new rank dimension epoch out).0.refusal ≡ 0
    → (ms : List (List ℕ)) → AllIn Bytes ms → GhostsBounded (area_after_each (open_area_of old new rank dimension epoch out).1 ms)
