-- Means, no part of what is promised: the same of the code's struct, the part, the tables, the ranks and the trees sent.
use Rattle.std.specs.Prelude.{ℕ, Bool, List}
use Rattle.encoding.specs.Pieces.{Bytes}
use Rattle.message_ghosts.specs.Means.{SendingRange, Known, AtRecord, NearRoom, Ranged, Localised, Marks, goes, goes_from, goes_near, beside_before, sent_before}
use Rattle.message_ghosts.specs.declared.Sending.{Sending}
use Rattle.message_ghosts.specs.declared.rule.Ranges.{Ranges}
use Rattle.message_ghosts.specs.declared.rule.Locals.{Locals}

module _ (s : Sending) where
  -- the trees are those that the sender sends, and the part has bytes
  abbrev pub Sends : Type 0
  Sends = SendingRange s.part.now s.old.now s.new.now s.sender s.receiver s.first s.count × Bytes s.part.now

  abbrev pub KnownPart : ℕ → Type 0
  KnownPart count = Known s.part.now s.old.now s.new.now s.sender s.receiver count

  abbrev pub HasRecord : ℕ → ℕ → Type 0
  HasRecord count j = AtRecord s.part.now s.old.now s.new.now s.sender s.receiver count j

  abbrev pub RoomNear : ℕ → ℕ → ℕ → List ℕ → Type 0
  RoomNear count start end near = NearRoom s.part.now s.old.now s.new.now s.sender s.receiver count start end near

  abbrev pub RangesOf : Ranges → Type 0
  RangesOf r = Ranged s.old.now s.new.now s.receiver s.first r.first r.end r.below r.kept r.until

  abbrev pub LocalsOf : ℕ → Locals → Type 0
  LocalsOf count h = Localised s.part.now s.old.now s.new.now s.receiver s.first count h.first h.below h.kept h.until

  abbrev pub MarksOf : List ℕ → Type 0
  MarksOf marks = Marks s.part.now s.old.now s.new.now s.sender s.receiver marks

  abbrev pub is_sent_before : ℕ → Bool
  is_sent_before h = sent_before s.old.now s.new.now s.receiver s.first h

  abbrev pub is_beside_before : ℕ → ℕ → Bool
  is_beside_before g n = beside_before s.part.now s.old.now s.new.now s.receiver s.first g n

  abbrev pub has_to_go : ℕ → Bool
  has_to_go g = goes s.part.now s.old.now s.new.now s.sender s.receiver s.first g

  abbrev pub near_going : ℕ → List ℕ → ℕ → ℕ → Bool
  near_going count near n k = goes_near s.part.now s.old.now s.new.now s.sender s.receiver s.first count near n k

  abbrev pub trees_going : ℕ → Bool
  trees_going k = goes_from s.part.now s.old.now s.new.now s.sender s.receiver s.first s.count k
