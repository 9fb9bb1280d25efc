-- Means, no part of what is promised: what a message is built from, as the code's struct says it.
use Rattle.std.specs.Prelude.{ℕ, List}
use Rattle.message.specs.Build.{part_message}
use Rattle.message_ghosts.specs.declared.Sending.{Sending}
use Rattle.message_build.specs.Means.{Going, MessageRoom}

module _ (s : Sending) where
  -- the message of an epoch
  abbrev pub message_of : ℕ → List ℕ
  message_of epoch = part_message s.part.now s.old.now s.new.now s.sender s.receiver epoch

  abbrev pub GoingWith : ℕ → List ℕ → Type 0
  GoingWith g marks = Going s.part.now s.old.now s.new.now s.sender s.receiver s.count g marks

  abbrev pub RoomFor : ℕ → ℕ → List ℕ → List ℕ → Type 0
  RoomFor g epoch marks out = MessageRoom s.part.now s.old.now s.new.now s.sender s.receiver s.first s.count g epoch marks out
