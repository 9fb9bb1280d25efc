-- Deliver: what a message must be, and the area after it.
use Rattle.std.specs.Prelude.{ℕ, zero, suc, ◌+◌, ◌-◌, Bool, cond, not, ◌&&◌, ◌||◌, List, [], ◌∷◌, ◌++◌, ltb, eqb}
use Rattle.encoding.specs.Below.{all_below, any_below, least_below}
use Rattle.encoding.specs.Pieces.{piece}
use Rattle.encoding.specs.Refusal.{Check, check, first_failed}
use Rattle.offsets.specs.Table.{holds}
use Rattle.pattern.specs.Sender.{sends, sent_first, sent_count}
use Rattle.pattern.specs.Sets.{gets_from}
use Rattle.records.specs.Shape.{face_count}
use Rattle.records.specs.Record.{tree_size, number_of, shape_of, neighbour_of}
use Rattle.message.specs.Layout.{message_tree_place, message_epoch, message_dimension, message_k, message_p, message_sender, message_receiver, message_trees, message_ghosts, message_tree, message_ghost, in_layout}
use Rattle.area.specs.Layout.{area_with}
use Rattle.area.specs.Area.{area_epoch, area_dimension, area_k, area_p, area_rank, area_ghosts, area_old, area_new, area_first, heard, tree_slot, ghost_slot, area_sound, behind_area}

-- one of count records has number k, and the first that has
unfoldable pub among : ℕ → (ℕ → List ℕ) → ℕ → Bool
among count r k = any_below count (λ j. eqb (number_of (r j)) k)

unfoldable pub one_of : ℕ → (ℕ → List ℕ) → ℕ → List ℕ
one_of count r k = r (least_below count (λ j. eqb (number_of (r j)) k))

module _ (a m : List ℕ) where
  -- 12: its epoch, dimension, K and P are the area's
  unfoldable pub same_run : Bool
  same_run = eqb (message_epoch m) (area_epoch a) && eqb (message_dimension m) (area_dimension a) && eqb (message_k m) (area_k a) && eqb (message_p m) (area_p a)

  -- 14: its sender is in the receive set
  unfoldable pub sender_due : Bool
  sender_due = ltb (message_sender m) (area_p a) && gets_from (area_old a) (area_new a) (area_rank a) (message_sender m)

  -- 16: its trees are exactly the range due
  unfoldable pub trees_due : Bool
  trees_due =
      eqb (message_trees m) (sent_count (area_old a) (area_new a) (message_sender m) (area_rank a))
      && all_below (message_trees m) (λ i. eqb (number_of (message_tree m i)) (sent_first (area_old a) (area_new a) (message_sender m) (area_rank a) + i))

  -- k is across a used face of a tree of the message
  unfoldable pub beside_trees : ℕ → Bool
  beside_trees k =
      any_below (message_trees m) (λ i. any_below (face_count (shape_of (message_tree m i))) (λ f. eqb (neighbour_of (message_tree m i) f) k))

  -- 17: no ghost is local under the new table, and each is a neighbour of a tree in the message
  unfoldable pub ghost_due : ℕ → Bool
  ghost_due j = not (holds (area_new a) (area_rank a) (number_of (message_ghost m j))) && beside_trees (number_of (message_ghost m j))

  -- 18: no ghost is already held
  unfoldable pub ghost_new : ℕ → Bool
  ghost_new j = not (among (area_ghosts a) (ghost_slot a) (number_of (message_ghost m j)))

  -- the checks of a delivery
  unfoldable pub deliver_checks : List Check
  deliver_checks =
      check (area_sound a) 10 ∷ check (in_layout m) 11 ∷ check same_run 12 ∷ check (eqb (message_receiver m) (area_rank a)) 13
      ∷ check sender_due 14 ∷ check (not (heard a (message_sender m))) 15 ∷ check trees_due 16 ∷ check (all_below (message_ghosts m) ghost_due) 17
      ∷ check (all_below (message_ghosts m) ghost_new) 18 ∷ []

  -- tree slot i after it
  unfoldable pub slot_after : ℕ → List ℕ
  slot_after i =
      cond (sends (area_old a) (area_new a) (message_sender m) (area_rank a) (area_first a + i))
      (piece m (message_tree_place (area_first a + i - sent_first (area_old a) (area_new a) (message_sender m) (area_rank a))) tree_size)
      (tree_slot a i)

  -- the ghosts below k after it, ascending: those held and those that came
  unfoldable pub ghosts_after : ℕ → List ℕ
  ghosts_after zero = []
  ghosts_after (suc k) =
      ghosts_after k
      ++ cond (among (area_ghosts a) (ghost_slot a) k) (one_of (area_ghosts a) (ghost_slot a) k)
      (cond (among (message_ghosts m) (message_ghost m) k) (one_of (message_ghosts m) (message_ghost m) k) [])

  -- the area after it: the bit set, trees in their slots, ghosts in ascending order; the bytes behind the area stay
  unfoldable pub delivered : List ℕ
  delivered =
      area_with (area_epoch a) (area_dimension a) (area_old a) (area_new a) (area_rank a) (λ s. heard a s || eqb s (message_sender m)) slot_after
      (area_ghosts a + message_ghosts m) (ghosts_after (area_k a))
      ++ behind_area a

-- deliver a message: the refusal, and the area
unfoldable pub deliver_of : List ℕ → List ℕ → ℕ × List ℕ
deliver_of a m = (first_failed (deliver_checks a m), cond (eqb (first_failed (deliver_checks a m)) 0) (delivered a m) a)
