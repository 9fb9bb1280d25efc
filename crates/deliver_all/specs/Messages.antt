-- Bytes as they were received: messages end to end, parted by their own lengths.
use Rattle.std.specs.Prelude.{ℕ, zero, suc, cond, ◌&&◌, List, [], ◌∷◌, leb, eqb, length, take, drop}
use Rattle.message.specs.Layout.{message_header, message_size, message_trees, message_ghosts}
use Rattle.area.specs.Deliver.{deliver_of}

-- how long the message in front is: as its header says; a rest under a header, or shorter than its header says, is one piece
unfoldable pub front_length : List ℕ → ℕ
front_length bs =
    cond (leb message_header (length bs) && leb (message_size (message_trees bs) (message_ghosts bs)) (length bs))
    (message_size (message_trees bs) (message_ghosts bs)) (length bs)

-- the first n pieces, the next one behind the one before; none where no byte is left
unfoldable pub first_pieces : ℕ → List ℕ → List (List ℕ)
first_pieces zero bs = []
first_pieces (suc n) bs = cond (eqb (length bs) 0) [] (take (front_length bs) bs ∷ first_pieces n (drop (front_length bs) bs))

-- all of them: each has a byte, so there are no more than bytes
unfoldable pub messages_in : List ℕ → List (List ℕ)
messages_in bs = first_pieces (length bs) bs

-- the area after one delivery after the other, each into the area as the last one left it, and what each answers
unfoldable pub area_after_each : List ℕ → List (List ℕ) → List ℕ
area_after_each a [] = a
area_after_each a (m ∷ ms) = area_after_each (deliver_of a m).1 ms

unfoldable pub answers_of_each : List ℕ → List (List ℕ) → List ℕ
answers_of_each a [] = []
answers_of_each a (m ∷ ms) = (deliver_of a m).0 ∷ answers_of_each (deliver_of a m).1 ms
