-- Means, no part of what is promised: what inner functions require, and values that mirror their code.
use Rattle.std.specs.Prelude.{ℕ, zero, suc, ◌<◌, ◌≡◌, true, cond, List, [], ◌++◌}
use Rattle.encoding.specs.Pieces.{Bytes}
use Rattle.offsets.specs.Table.{ranks}
use Rattle.pattern.specs.Means.{RankOf, lower_rank, upper_rank}
use Rattle.pattern.specs.Sets.{sends_to}
use Rattle.part.specs.Part.{part_sound}
use Rattle.message.specs.Build.{part_message}
use Rattle.message_ghosts.specs.Means.{Room}

-- ---- the messages in the order of the ranks

module _ (part old new : List ℕ) (p epoch : ℕ) where
  -- the message to q, none where p sends q no tree
  unfoldable pub message_to : ℕ → List ℕ
  message_to q = cond (sends_to old new p q) (part_message part old new p q epoch) []

  -- those to the ranks below q, end to end
  unfoldable pub messages_below : ℕ → List ℕ
  messages_below zero = []
  messages_below (suc q) = messages_below q ++ message_to q

-- ---- what the functions require

-- two tables that agree, a rank of theirs, its sound part under the old one, and words for the marks
pub record BuildFrom (part old new : List ℕ) (p : ℕ) (marks : List ℕ) : Type 0 where
  pub rank : RankOf old new p
  pub sound : part_sound part old p ≡ true
  pub bytes : Bytes part
  pub room : Room old marks

-- a receiver, and the ranks that have trees on either side of the sender
pub record BuildTo (part old new : List ℕ) (p q lower upper : ℕ) (marks : List ℕ) : Type 0 where
  pub sender : BuildFrom part old new p marks
  pub below : q < ranks old
  pub is_lower : lower ≡ lower_rank old p
  pub is_upper : upper ≡ upper_rank old p
