-- A delivery of any bytes on a sound area leaves a sound area.
use Prim.Native.Nat.{ℕ, zero, suc, ◌+◌, ◌-◌, ◌*◌, ◌/◌}
use native.Mathlib.Omega.{arith}
use mathlib.Core.Path.{◌≡◌}
use mathlib.Core.Bool.{Bool, true, false, cond, ◌||◌}
use mathlib.Core.List.{List, [], ◌∷◌, ◌++◌}
use lib.Dec.{eqb}
use lib.ListN.{drop, replicate}
use lib.Seq.{get_or-drop}
use borrow.Author.Tests.{eqb-true}
use Rattle.encoding.specs.Numbers.{le_bytes}
use Rattle.encoding.specs.Pieces.{piece, Bytes}
use Rattle.encoding.specs.Refusal.{first_failed}
use Rattle.encoding.proofs.Below.{either}
use Rattle.encoding.proofs.Pieces.{bytes_piece}
use Rattle.offsets.specs.Table.{ranks, trees, tree_count}
use Rattle.pattern.specs.Sender.{sends, sent_first}
use Rattle.records.specs.Shape.{faces_in}
use Rattle.records.specs.Record.{core_size, tree_size}
use Rattle.message.specs.Layout.{message_tree_place, message_sender, message_ghosts, message_ghost, message_ghost_place, message_trees}
use Rattle.area.specs.Layout.{heard_words, ghost_bound, slots_place, ghost_slots_place, area_size, area_header_bytes, word_of, words_of, slots_of, area_with}
use Rattle.area.specs.Area.{area_epoch, area_dimension, area_k, area_p, area_rank, area_count, area_ghosts, area_old, area_new, area_first, heard, tree_slot, ghost_slot, area_sound, behind_area}
use Rattle.area.specs.Deliver.{among, one_of, deliver_checks, slot_after, ghosts_after, delivered, deliver_of}
use Rattle.area.specs.Open.{fresh_area}
use Rattle.area_theorems.proofs.Delivered.{accepted_sound}

-- ---- lists of bytes

-- a list of bytes
record Made (bs : List ℕ) : Type 0 where
  each : Bytes bs

append_bytes : (a b : List ℕ) → Bytes a → Bytes b → Bytes (a ++ b)
append_bytes [] b h k i = k i
append_bytes (x ∷ a) b h k zero = h zero
append_bytes (x ∷ a) b h k (suc i) = append_bytes a b (λ j. h (suc j)) k i

number_bytes : (w v : ℕ) → Bytes (le_bytes w v)
unfolding le_bytes
number_bytes zero v i = omega arith
number_bytes (suc w) v zero = omega arith
number_bytes (suc w) v (suc i) = number_bytes w (v / 256) i

zero_bytes_lem : (n : ℕ) → Bytes (replicate n 0)
zero_bytes_lem zero i = omega arith
zero_bytes_lem (suc n) zero = omega arith
zero_bytes_lem (suc n) (suc i) = zero_bytes_lem n i

joined : {a b : List ℕ} → Made a → Made b → Made (a ++ b)
joined {a} {b} h k = record { each = append_bytes a b h.each k.each }

number : (w v : ℕ) → Made (le_bytes w v)
number w v = record { each = number_bytes w v }

none : Made []
none = record { each = λ i. omega arith }

zeros : (n : ℕ) → Made (replicate n 0)
zeros n = record { each = zero_bytes_lem n }

cut : (a : List ℕ) (off n : ℕ) → Bytes a → Made (piece a off n)
cut a off n h = record { each = bytes_piece a off n h }

behind : (n : ℕ) (a : List ℕ) → Bytes a → Made (drop n a)
behind n a h = record { each = λ i. rw get_or-drop (h (n + i)) }

chosen : {x y : List ℕ} (b : Bool) → Made x → Made y → Made (cond b x y)
chosen true h k = h
chosen false h k = k

slots_made : (slot : ℕ → List ℕ) (n : ℕ) → ((i : ℕ) → Made (slot i)) → Made (slots_of slot n)
unfolding slots_of
slots_made slot zero h = none
slots_made slot (suc n) h = joined (slots_made slot n h) (h n)

words_made : (H : ℕ → Bool) (n : ℕ) → Made (words_of H n)
unfolding words_of
words_made H zero = none
words_made H (suc n) = joined (words_made H n) (number 8 (word_of H n))

header_made : (epoch dimension K P rank n g : ℕ) → Made (area_header_bytes epoch dimension K P rank n g)
unfolding area_header_bytes
header_made epoch dimension K P rank n g =
    joined (number 4 epoch) (joined (number 4 dimension) (joined (number 4 K) (joined (number 4 P) (joined (number 4 rank) (joined (number 4 n) (joined (number 4 g) (number 4 0)))))))

-- an area made of bytes
area_made : (epoch dimension : ℕ) (old new : List ℕ) (rank : ℕ) (H : ℕ → Bool) (slot : ℕ → List ℕ) (g : ℕ) (ghosts : List ℕ)
    → Made old → Made new → ((i : ℕ) → Made (slot i)) → Made ghosts → Made (area_with epoch dimension old new rank H slot g ghosts)
unfolding area_with
area_made epoch dimension old new rank H slot g ghosts bO bN bS bG =
    joined (header_made epoch dimension (trees old) (ranks old) rank (tree_count new rank) g)
    (joined bO
    (joined bN
    (joined (words_made H (heard_words (ranks old)))
    (joined (slots_made slot (tree_count new rank) bS) (joined bG (zeros (core_size * (ghost_bound (faces_in dimension) (tree_count new rank) - g))))))))

-- the fresh area, with bytes behind it
pub fresh_bytes : (old new : List ℕ) (rank dimension epoch : ℕ) (tail : List ℕ) → Bytes old → Bytes new → Bytes tail → Bytes (fresh_area old new rank dimension epoch ++ tail)
unfolding fresh_area
fresh_bytes old new rank dimension epoch tail bO bN bT =
    (joined
    (area_made epoch dimension old new rank (λ s. false) (λ i. replicate tree_size 0) 0 [] (record { each = bO }) (record { each = bN }) (λ i. zeros tree_size) none)
    (record { each = bT })).each

-- ---- a delivery

module _ (a m : List ℕ) (b : Bytes a) (c : Bytes m) where
  slot-made : (i : ℕ) → Made (slot_after a m i)
  unfolding slot_after tree_slot
  slot-made i =
      let k : ℕ = area_first a + i in
      chosen (sends (area_old a) (area_new a) (message_sender m) (area_rank a) k) (cut m (message_tree_place (k - sent_first (area_old a) (area_new a) (message_sender m) (area_rank a))) tree_size c)
      (cut a (slots_place (area_p a) + tree_size * i) tree_size b)

  held-made : (j : ℕ) → Made (ghost_slot a j)
  unfolding ghost_slot
  held-made j = cut a (ghost_slots_place (area_p a) (area_count a) + core_size * j) core_size b

  came-made : (j : ℕ) → Made (message_ghost m j)
  unfolding message_ghost
  came-made j = cut m (message_ghost_place (message_trees m) j) core_size c

  ghosts-made : (k : ℕ) → Made (ghosts_after a m k)
  unfolding ghosts_after one_of
  ghosts-made zero = none
  ghosts-made (suc k) =
      joined (ghosts-made k)
      (chosen (among (area_ghosts a) (ghost_slot a) k) (held-made _) (chosen (among (message_ghosts m) (message_ghost m) k) (came-made _) none))

  delivered-made : Made (delivered a m)
  unfolding delivered behind_area area_old area_new
  delivered-made =
      joined
      (area_made (area_epoch a) (area_dimension a) (area_old a) (area_new a) (area_rank a) (λ s. heard a s || eqb s (message_sender m)) (slot_after a m) (area_ghosts a + message_ghosts m) (ghosts_after a m (area_k a))
      (cut a _ _ b) (cut a _ _ b) slot-made (ghosts-made (area_k a)))
      (behind (area_size (area_dimension a) (area_p a) (area_count a)) a b)

  deliver-made : Made (deliver_of a m).1
  unfolding deliver_of
  deliver-made = chosen (eqb (first_failed (deliver_checks a m)) 0) delivered-made (record { each = b })

  -- the area after a delivery is made of bytes
  pub deliver_bytes : Bytes (deliver_of a m).1
  deliver_bytes = deliver-made.each

-- a sound area stays sound under a delivery of any bytes
pub deliver_sound : (a m : List ℕ) → Bytes a → area_sound a ≡ true → area_sound (deliver_of a m).1 ≡ true
unfolding deliver_of
deliver_sound a m b s =
    either (eqb (first_failed (deliver_checks a m)) 0)
    (λ e. rw e (accepted_sound a m b (eqb-true (first_failed (deliver_checks a m)) 0 e)))
    (λ e. rw e s)
