-- What a sound area tells.
use Prim.Native.Nat.{ℕ, ◌*◌, ◌≤◌, ◌<◌}
use native.Mathlib.Nat.{mul-le-mul_left}
use mathlib.Core.Path.{◌≡◌}
use mathlib.Core.Bool.{Bool, true, ◌&&◌}
use mathlib.Core.List.{List}
use lib.Dec.{leb, ltb}
use borrow.Author.Tests.{ltb-true}
use Rattle.encoding.specs.Below.{all_below}
use Rattle.encoding.specs.Pieces.{Bytes}
use Rattle.encoding.proofs.Below.{and_fst, and_snd, all_at, count_le}
use Rattle.pattern.specs.Sets.{gets_from}
use Rattle.records.specs.Shape.{faces_in}
use Rattle.area.specs.Layout.{heard_words, ghost_bound}
use Rattle.area.specs.Area.{area_dimension, area_p, area_rank, area_count, area_ghosts, area_old, area_new, area_header_sound, heard, due_heard, bit_sound, tree_slot_sound, filled_slots, filled_bound, area_bound, ghost_slot_sound, area_sound}
use Rattle.area.specs.Means.{HeaderHolds}
use Rattle.area.proofs.Headers.{header_holds}

-- the filled slots are some of all, so their bound is within that of the area
pub filled_few : (a : List ℕ) → filled_slots a ≤ area_count a
unfolding filled_slots
filled_few a = count_le (area_count a) (due_heard a)

pub filled_fits : (a : List ℕ) → filled_bound a ≤ area_bound a
unfolding filled_bound area_bound ghost_bound
filled_fits a = mul-le-mul_left (faces_in (area_dimension a)) (filled_few a)

module _ (a : List ℕ) (sound : area_sound a ≡ true) where
  sound-parts : (area_header_sound a ≡ true) × (all_below (64 * heard_words (area_p a)) (bit_sound a) ≡ true)
  unfolding area_sound
  sound-parts =
      let h : Bool = area_header_sound a in
      let b : Bool = all_below (64 * heard_words (area_p a)) (bit_sound a) in
      let e : (h && b) ≡ true =
      and_fst (h && b) (all_below (area_count a) (tree_slot_sound a))
      (and_fst (h && b && all_below (area_count a) (tree_slot_sound a)) (leb (area_ghosts a) (filled_bound a))
      (and_fst (h && b && all_below (area_count a) (tree_slot_sound a) && leb (area_ghosts a) (filled_bound a)) (all_below (area_bound a) (ghost_slot_sound a)) sound)) in
      (and_fst h b e, and_snd h b e)

  pub sound_header : area_header_sound a ≡ true
  sound_header = sound-parts.0

  pub sound_holds : Bytes a → HeaderHolds a
  sound_holds b = header_holds a b sound_header

  -- a heard sender is a rank of the receive set
  pub heard_rank : (s : ℕ) → s < 64 * heard_words (area_p a) → heard a s ≡ true → (s < area_p a) × (gets_from (area_old a) (area_new a) (area_rank a) s ≡ true)
  unfolding bit_sound
  heard_rank s l h =
      let e : (ltb s (area_p a) && gets_from (area_old a) (area_new a) (area_rank a) s) ≡ true = rw h at (all_at (64 * heard_words (area_p a)) (bit_sound a) sound-parts.1 s l) in
      (ltb-true s (area_p a) (and_fst _ _ e), and_snd (ltb s (area_p a)) (gets_from (area_old a) (area_new a) (area_rank a) s) e)
