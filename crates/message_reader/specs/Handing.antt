-- What a reader over a lent message hands out, and where it stands.
use Rattle.std.specs.Prelude.{ℕ, zero, suc, ◌+◌, cond, List, [], ◌∷◌, ltb, Ok, Err}
use Rattle.std.specs.declared.result.Result.{Result}
use Rattle.encoding.specs.Answer.{length_refused}
use Rattle.encoding.specs.Pieces.{piece}
use Rattle.encoding.specs.Refusals.{refusal_number}
use Rattle.encoding.specs.declared.refusal.Refusal.{Refusal}
use Rattle.encoding.specs.declared.answer.Length.{Length}
use Rattle.records.specs.Record.{tree_size}
use Rattle.message.specs.Layout.{message_tree_place, message_trees, message_ghosts, message_ghost, in_layout}
use Rattle.message.specs.Reading.{record_count, record_at, remain_after}
use Rattle.message.specs.Calls.{reading_of}
use Rattle.message_reader.specs.declared.place.Following.{Following}
use Rattle.message_reader.specs.declared.Begun.{Begun}
use Rattle.message_reader.specs.declared.Reader.{Reader}
use Rattle.message_reader.specs.declared.Step.{Step}

-- the place after place i: the next record's, and after the last the same
unfoldable pub place_after : List ℕ → ℕ → ℕ
place_after m i = cond {A = ℕ} (ltb i (record_count m)) (i + 1) i

-- begin: how many records there are, or 11 out of layout, and a reader at the first place; over a refused message it has no records
unfoldable pub begin_of : List ℕ → Length × (List ℕ × ℕ)
begin_of m = (reading_of m, (cond (in_layout m) m [], 0))

-- what the code's answer says of it: where it is refused there is no reader, and no byte is lent
abbrev pub begun_seen : Result Begun Refusal → Length × (List ℕ × ℕ)
begun_seen (Ok b) = (record { refusal = 0; length = b.records }, (b.reader.message.now, b.reader.at))
begun_seen (Err e) = (length_refused (refusal_number e), ([], 0))

-- the reader moved on, over the same lent message
abbrev pub moved_on : Reader → Reader
moved_on r = record { message = r.message; at = place_after r.message.now r.at }

-- next: the record at the reader's place, how many remain after it, and the reader moved on
unfoldable pub next_of : Reader → List ℕ × (ℕ × Reader)
next_of r = (record_at r.message.now r.at, (remain_after r.message.now r.at, moved_on r))

-- what the code's struct says of it
abbrev pub step_seen : Step → List ℕ × (ℕ × Reader)
step_seen s = (s.piece.now, (s.remain, s.reader))

-- what follows the record at a place: how many remain, and the next place
unfoldable pub following_of : List ℕ → ℕ → Following
following_of m i = record { remain = remain_after m i; at = place_after m i }

-- ---- reading on: n calls of next, each on the reader that the one before left

-- the pieces
unfoldable pub handed : ℕ → Reader → List (List ℕ)
handed zero r = []
handed (suc n) r = (next_of r).0 ∷ handed n (next_of r).1.1

-- the numbers that remain
unfoldable pub remains : ℕ → Reader → List ℕ
remains zero r = []
remains (suc n) r = (next_of r).1.0 ∷ remains n (next_of r).1.1

-- the reader that the last of them leaves
unfoldable pub reader_after : ℕ → Reader → Reader
reader_after zero r = r
reader_after (suc n) r = reader_after n (next_of r).1.1

-- n values, of the places from i on
unfoldable pub row : {A : Type 0} → ℕ → ℕ → (ℕ → A) → List A
row i zero f = []
row i (suc n) f = f i ∷ row (i + 1) n f

-- the trees of a message, each with its data, then its ghosts
unfoldable pub tree_records : List ℕ → List (List ℕ)
tree_records m = row 0 (message_trees m) (λ i. piece m (message_tree_place i) tree_size)

unfoldable pub ghost_records : List ℕ → List (List ℕ)
ghost_records m = row 0 (message_ghosts m) (message_ghost m)

-- n - 1, n - 2 and so on to 0
unfoldable pub down : ℕ → List ℕ
down zero = []
down (suc n) = n ∷ down n
