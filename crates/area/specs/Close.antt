-- Close: the part that an area's slots make.
use Rattle.std.specs.Prelude.{ℕ, ◌+◌, ◌-◌, Bool, true, cond, List, [], ◌∷◌, ◌++◌, leb, eqb, length}
use Rattle.encoding.specs.Answer.{length_answer, write_answer}
use Rattle.encoding.specs.Below.{all_below, least_below}
use Rattle.encoding.specs.Refusal.{Check, check, first_failed}
use Rattle.encoding.specs.declared.answer.Length.{Length}
use Rattle.offsets.specs.Table.{holds}
use Rattle.pattern.specs.Sets.{gets_from}
use Rattle.records.specs.Shape.{faces_in}
use Rattle.records.specs.Record.{unused, number_of}
use Rattle.part.specs.Layout.{header_bytes}
use Rattle.part.specs.Cut.{renamed}
use Rattle.part.specs.Part.{part_sound}
use Rattle.area.specs.Layout.{slots_of}
use Rattle.area.specs.Area.{area_dimension, area_k, area_p, area_rank, area_count, area_ghosts, area_old, area_new, area_first, heard, tree_slot, ghost_slot, area_sound}

module _ (a : List ℕ) where
  -- 20: every sender of the receive set is heard
  unfoldable pub all_heard : Bool
  all_heard = all_below (area_p a) (λ s. cond (gets_from (area_old a) (area_new a) (area_rank a) s) (heard a s) true)

  -- the local index of a neighbour: below n the local tree, else n plus the ghost's position; unused stays
  unfoldable pub join_index : ℕ → ℕ
  join_index k =
      cond (eqb k unused) unused
      (cond (holds (area_new a) (area_rank a) k) (k - area_first a) (area_count a + least_below (area_ghosts a) (λ j. eqb (number_of (ghost_slot a j)) k)))

  -- the joined part
  unfoldable pub joined_part : List ℕ
  joined_part =
      header_bytes (area_dimension a) (area_k a) (area_p a) (area_rank a) (area_first a) (area_count a) (area_ghosts a)
      ++ (slots_of (λ i. renamed join_index (faces_in (area_dimension a)) (tree_slot a i)) (area_count a) ++ slots_of (ghost_slot a) (area_ghosts a))

  -- the checks of a close but for the buffer; 21: the joined part is sound for the new table and the area's rank
  unfoldable pub close_checks : List Check
  close_checks = check (area_sound a) 10 ∷ check all_heard 20 ∷ check (part_sound joined_part (area_new a) (area_rank a)) 21 ∷ []

-- how long the part is
unfoldable pub close_length_of : List ℕ → Length
close_length_of a = length_answer (first_failed (close_checks a)) (length (joined_part a))

-- close: the part is written, the area stays as it is
unfoldable pub close_of : List ℕ → List ℕ → Length × List ℕ
close_of a out = write_answer (first_failed (close_checks a ++ (check (leb (length (joined_part a)) (length out)) 22 ∷ []))) (joined_part a) out
