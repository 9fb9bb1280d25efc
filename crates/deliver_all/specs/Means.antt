-- Means, no part of what is promised: what inner functions require, and what they leave.
use Rattle.std.specs.Prelude.{ℕ, ◌≤◌, ◌≡◌, true, List, length}
use Rattle.encoding.specs.Pieces.{splice}
use Rattle.area.specs.Area.{area_sound}
use Rattle.deliver_all.specs.Messages.{messages_in, area_after_each, answers_of_each}

-- a sound area, and room for an answer to each message
pub record Receivable (a bs answers : List ℕ) : Type 0 where
  pub sound : area_sound a ≡ true
  pub room : length (messages_in bs) ≤ length answers

-- each message delivered in turn: the area and the list after them
pub record Received (a bs answers a' answers' : List ℕ) : Type 0 where
  pub area : a' ≡ area_after_each a (messages_in bs)
  pub told : answers' ≡ splice answers 0 (answers_of_each a (messages_in bs))
