-- An area as lent bytes, and when it is sound.
use Rattle.std.specs.Prelude.{ℕ, ◌+◌, ◌*◌, ◌/◌, ◌%◌, Bool, true, cond, not, ◌&&◌, List, leb, ltb, eqb, length, drop}
use Rattle.encoding.specs.Below.{all_below, count_below}
use Rattle.encoding.specs.Numbers.{u32_at, u64_at}
use Rattle.encoding.specs.Pieces.{piece}
use Rattle.encoding.specs.Words.{all_zero}
use Rattle.offsets.specs.Limits.{rank_count_ok}
use Rattle.offsets.specs.Table.{trees, valid, first_tree, tree_count, holds}
use Rattle.pattern.specs.Sender.{sender}
use Rattle.pattern.specs.Sets.{gets_from}
use Rattle.bits.specs.Bits.{bit_of}
use Rattle.records.specs.Shape.{faces_in}
use Rattle.records.specs.Record.{core_size, tree_size, number_of, in_form}
use Rattle.mesh.specs.Mesh.{dimension_ok}
use Rattle.message.specs.Layout.{after_last}
use Rattle.area.specs.Layout.{area_header, heard_words, ghost_bound, old_place, new_place, words_place, slots_place, ghost_slots_place, area_size}

module _ (a : List ℕ) where
  unfoldable pub area_epoch : ℕ
  area_epoch = u32_at a 0

  unfoldable pub area_dimension : ℕ
  area_dimension = u32_at a 4

  -- K
  unfoldable pub area_k : ℕ
  area_k = u32_at a 8

  -- P
  unfoldable pub area_p : ℕ
  area_p = u32_at a 12

  unfoldable pub area_rank : ℕ
  area_rank = u32_at a 16

  -- n
  unfoldable pub area_count : ℕ
  area_count = u32_at a 20

  unfoldable pub area_ghosts : ℕ
  area_ghosts = u32_at a 24

  -- the tables
  unfoldable pub area_old : List ℕ
  area_old = piece a old_place (8 * (area_p + 1))

  unfoldable pub area_new : List ℕ
  area_new = piece a (new_place area_p) (8 * (area_p + 1))

  -- the first tree of the new range
  unfoldable pub area_first : ℕ
  area_first = first_tree area_new area_rank

  -- sender s is heard: bit s mod 64 of word s div 64
  unfoldable pub heard : ℕ → Bool
  heard s = bit_of (u64_at a (words_place area_p + 8 * (s / 64))) (s % 64)

  -- tree slot i, and its core
  unfoldable pub tree_slot : ℕ → List ℕ
  tree_slot i = piece a (slots_place area_p + tree_size * i) tree_size

  unfoldable pub tree_slot_core : ℕ → List ℕ
  tree_slot_core i = piece a (slots_place area_p + tree_size * i) core_size

  -- ghost slot j
  unfoldable pub ghost_slot : ℕ → List ℕ
  ghost_slot j = piece a (ghost_slots_place area_p area_count + core_size * j) core_size

  -- tree i is due from a heard sender
  unfoldable pub due_heard : ℕ → Bool
  due_heard i = heard (sender area_old (area_first + i) area_rank)

  -- long enough; dimension 2 or 3; tables valid; header as they say
  unfoldable pub area_header_sound : Bool
  area_header_sound =
      leb area_header (length a) && dimension_ok area_dimension && rank_count_ok area_p && leb (area_size area_dimension area_p area_count) (length a)
      && valid area_old && valid area_new && eqb (trees area_old) area_k && eqb (trees area_new) area_k && ltb area_rank area_p
      && eqb area_count (tree_count area_new area_rank) && eqb (u32_at a 28) 0

  -- bits set only for ranks of the receive set
  unfoldable pub bit_sound : ℕ → Bool
  bit_sound s = cond (heard s) (ltb s area_p && gets_from area_old area_new area_rank s) true

  -- the slot of a tree due from a heard sender has a record in form with that tree's number; every other slot is zero
  unfoldable pub tree_slot_sound : ℕ → Bool
  tree_slot_sound i =
      cond (due_heard i) (in_form (area_first + i) (tree_slot_core i) && eqb (number_of (tree_slot_core i)) (area_first + i)) (all_zero (tree_slot i))

  -- document 02, C-18: how many tree slots are filled, those of trees due from heard senders
  unfoldable pub filled_slots : ℕ
  filled_slots = count_below area_count due_heard

  -- how many ghosts it may hold: F for each filled tree slot
  unfoldable pub filled_bound : ℕ
  filled_bound = ghost_bound (faces_in area_dimension) filled_slots

  -- held ghosts fill the first slots: in form, below K, outside the new range, strictly ascending
  unfoldable pub ghost_held_sound : ℕ → Bool
  ghost_held_sound j =
      in_form (number_of (ghost_slot j)) (ghost_slot j) && ltb (number_of (ghost_slot j)) area_k && not (holds area_new area_rank (number_of (ghost_slot j)))
      && after_last ghost_slot j

  -- how many ghost slots the area has
  unfoldable pub area_bound : ℕ
  area_bound = ghost_bound (faces_in area_dimension) area_count

  -- every other ghost slot is zero
  unfoldable pub ghost_slot_sound : ℕ → Bool
  ghost_slot_sound j = cond (ltb j area_ghosts) (ghost_held_sound j) (all_zero (ghost_slot j))

  -- the area is sound
  unfoldable pub area_sound : Bool
  area_sound =
      area_header_sound && all_below (64 * heard_words area_p) bit_sound && all_below area_count tree_slot_sound && leb area_ghosts filled_bound
      && all_below area_bound ghost_slot_sound

  -- the bytes behind the area
  unfoldable pub behind_area : List ℕ
  behind_area = drop (area_size area_dimension area_p area_count) a
