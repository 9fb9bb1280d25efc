-- Means, no part of what is promised: what inner functions require, and the checks in two parts.
use Rattle.std.specs.Prelude.{ℕ, ◌≤◌, not, List, [], ◌∷◌, length}
use Rattle.encoding.specs.Below.{all_below}
use Rattle.encoding.specs.Refusal.{Check, check}
use Rattle.message.specs.Layout.{message_header, message_sender, message_ghosts}
use Rattle.area.specs.Layout.{area_header}
use Rattle.area.specs.Area.{heard}
use Rattle.area.specs.Deliver.{sender_due, trees_due, ghost_due, ghost_new}

-- both headers are there
pub record Headed (a m : List ℕ) : Type 0 where
  pub area : area_header ≤ length a
  pub message : message_header ≤ length m

-- the checks behind that of the receiver
unfoldable pub due_checks : List ℕ → List ℕ → List Check
due_checks a m =
    check (sender_due a m) 14 ∷ check (not (heard a (message_sender m))) 15 ∷ check (trees_due a m) 16
    ∷ check (all_below (message_ghosts m) (ghost_due a m)) 17 ∷ check (all_below (message_ghosts m) (ghost_new a m)) 18 ∷ []
