-- Means, no part of what is promised: what inner functions require, and values that mirror their code; proofs/ says that these are the definitions.
use Rattle.std.specs.Prelude.{ℕ, zero, suc, ◌+◌, ◌-◌, ◌*◌, ◌/◌, ◌≤◌, ◌<◌, ◌≡◌, Bool, false, cond, List, ◌++◌, ltb, eqb, length}
use Rattle.encoding.specs.Pieces.{piece}
use Rattle.records.specs.Record.{core_size, tree_size, number_of}
use Rattle.message.specs.Layout.{message_sender, message_trees, message_ghosts}
use Rattle.area.specs.Layout.{words_place, ghost_slots_place, slots_of}
use Rattle.area.specs.Area.{area_p, area_count, area_ghosts, area_first, area_bound}
use Rattle.area.specs.Means.{HeaderHolds, from_first, from_count, from_place}

-- ---- the merge of held ghosts r and ghosts s that came

-- with x the last held ghost, and rest j the merge of those before it and the first j that came
unfoldable pub merged_with : (ℕ → List ℕ) → (ℕ → List ℕ) → List ℕ → ℕ → List ℕ
merged_with s rest x zero = rest zero ++ x
merged_with s rest x (suc j) = cond (ltb (number_of (s j)) (number_of x)) (rest (suc j) ++ x) (merged_with s rest x j ++ s j)

-- the first i of r and the first j of s: the larger of the last two goes last
unfoldable pub merged : (ℕ → List ℕ) → (ℕ → List ℕ) → ℕ → ℕ → List ℕ
merged r s zero = slots_of s
merged r s (suc i) = merged_with s (merged r s i) (r i)

-- the last of r goes last
unfoldable pub held_last : (ℕ → List ℕ) → (ℕ → List ℕ) → ℕ → ℕ → Bool
held_last r s i j = cond (eqb i 0) false (ltb (number_of (s (j - 1))) (number_of (r (i - 1))))

-- i records from byte `at` of the area, and j, at least one, from byte `from` of the message
pub record LastRoom (a : List ℕ) (at i : ℕ) (m : List ℕ) (from j : ℕ) : Type 0 where
  pub slots : at + core_size * i ≤ length a
  pub records : from + core_size * j ≤ length m
  pub some : 0 < j

-- slots in the area for both, and the records that came in the message
pub record MergeRoom (a : List ℕ) (at held : ℕ) (m : List ℕ) (from came : ℕ) : Type 0 where
  pub slots : at + core_size * (held + came) ≤ length a
  pub records : from + core_size * came ≤ length m

-- ---- the writes of an accepted delivery

-- what an accepted delivery has: a sound header, room, and the range due from its sender in the new range
pub record Deliverable (a m : List ℕ) : Type 0 where
  pub holds : HeaderHolds a
  pub size : length m ≡ 32 + (tree_size * message_trees m + core_size * message_ghosts m)
  pub fit : area_ghosts a + message_ghosts m ≤ area_bound a
  pub few : area_bound a < 4294967296
  pub sender_below : message_sender m < area_p a
  pub some : 0 < message_trees m
  pub count_is : message_trees m ≡ from_count a (message_sender m)
  pub first_is : number_of (piece m 32 core_size) ≡ from_first a (message_sender m)
  pub low : area_first a ≤ from_first a (message_sender m)
  pub high : from_first a (message_sender m) + message_trees m ≤ area_first a + area_count a

-- where its writes go, how many records they have, and room for them
pub record Placed (a m : List ℕ) (words sender slots trees ghosts held came : ℕ) : Type 0 where
  pub is_words : words ≡ words_place (area_p a)
  pub is_sender : sender ≡ message_sender m
  pub is_slots : slots ≡ from_place a (message_sender m)
  pub is_trees : trees ≡ message_trees m
  pub is_ghosts : ghosts ≡ ghost_slots_place (area_p a) (area_count a)
  pub is_held : held ≡ area_ghosts a
  pub is_came : came ≡ message_ghosts m
  pub header_room : 32 ≤ length a
  pub words_room : words + 8 * (sender / 64) + 8 ≤ length a
  pub slots_room : slots + tree_size * trees ≤ length a
  pub ghosts_room : ghosts + core_size * (held + came) ≤ length a
  pub message_room : 32 + tree_size * trees + core_size * came ≡ length m
  pub few : held + came < 4294967296
