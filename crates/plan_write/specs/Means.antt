-- Means, no part of what is promised: what the writers of the output ask for and leave behind.
use Rattle.std.specs.Prelude.{ℕ, ◌+◌, ◌*◌, ◌≤◌, ◌<◌, ◌≡◌, true, false, cond, List, [], ◌∷◌, ◌++◌, leb, length}
use Rattle.std.specs.Option.{MatchOption}
use Rattle.std.specs.declared.option.Option.{Option}
use Rattle.encoding.specs.declared.answer.Length.{Length}
use Rattle.encoding.specs.Answer.{write_answer}
use Rattle.encoding.specs.Refusal.{check, first_failed}
use Rattle.encoding.specs.Pieces.{splice}
use Rattle.offsets.specs.Table.{ranks}
use Rattle.pattern.specs.Sender.{Tables}
use Rattle.pattern.specs.Sets.{sends_to}
use Rattle.pattern.specs.Means.{RankOf, PairOf}
use Rattle.plan_read.specs.Text.{decimal, number_limit}
use Rattle.plan_write.specs.Moves.{plan_ranks, move_word, move_text, moves_from, moves_text, move_count, moves_output}

-- the text stands at its place, all else is as before, and `next` is the place behind it
pub record Put (before after : List ℕ) (at next : ℕ) (text : List ℕ) : Type 0 where
  pub wrote : after ≡ splice before at text
  pub behind : next ≡ at + length text

-- a number and the byte behind it
unfoldable pub number_text : ℕ → ℕ → List ℕ
number_text n end = decimal n ++ (end ∷ [])

-- room for a text
pub record Fits (out : List ℕ) (at : ℕ) (text : List ℕ) : Type 0 where
  pub room : at + length text ≤ length out

-- room for a text that has a number of at most 8 digits
pub record FitsNumber (out : List ℕ) (at n : ℕ) (text : List ℕ) : Type 0 where
  pub small : n < number_limit
  pub fits : Fits out at text

-- ---- moves

-- a move of four numbers
unfoldable pub row_text : ℕ → ℕ → ℕ → ℕ → List ℕ
row_text p q first last = move_word ++ (number_text p 44 ++ (number_text q 44 ++ (number_text first 44 ++ number_text last 10)))

-- four numbers of at most 8 digits
pub record Small (p q first last : ℕ) : Type 0 where
  pub sender : p < number_limit
  pub receiver : q < number_limit
  pub first_tree : first < number_limit
  pub last_tree : last < number_limit

-- the same, and room for their move
pub record FitsRow (out : List ℕ) (at p q first last : ℕ) : Type 0 where
  pub small : Small p q first last
  pub fits : Fits out at (row_text p q first last)

module _ (old new : List ℕ) where
  -- the move from p to q, where there is one
  unfoldable pub pair_text : ℕ → ℕ → List ℕ
  pair_text p q = cond (sends_to old new p q) (move_text old new p q) []

-- the first and the last tree of the move from p to q, if there is one
pub record MovedTrees (old new : List ℕ) (p q first last : ℕ) : Type 0 where
  pub some : sends_to old new p q ≡ true
  pub row : pair_text old new p q ≡ row_text p q first last
  pub small : Small p q first last

abbrev pub Moved : List ℕ → List ℕ → ℕ → ℕ → Option (ℕ × ℕ) → Type 0
Moved old new p q moved = MatchOption moved (sends_to old new p q ≡ false) (λ trees. MovedTrees old new p q trees.0 trees.1)

-- room for the move from p to q
pub record FitsPair (old new out : List ℕ) (at p q : ℕ) : Type 0 where
  pub pair : PairOf old new p q
  pub fits : Fits out at (pair_text old new p q)

-- room for the moves from p
pub record FitsFrom (old new out : List ℕ) (at p : ℕ) : Type 0 where
  pub rank : RankOf old new p
  pub fits : Fits out at (moves_from old new p (ranks old))

-- room for all moves
pub record FitsMoves (old new out : List ℕ) (at : ℕ) : Type 0 where
  pub tables : Tables old new
  pub fits : Fits out at (moves_text old new (ranks old))

-- ---- the output

-- two tables that agree, within the program's own limit of P
pub record PlanTables (old new : List ℕ) : Type 0 where
  pub agree : Tables old new
  pub few : ranks old ≤ plan_ranks

-- three numbers of at most 8 digits, and at most 41 bytes for each pair of ranks
pub record SmallOutput (ranks trees bytes moves : ℕ) : Type 0 where
  pub ranks_small : ranks < number_limit
  pub trees_small : trees < number_limit
  pub bytes_small : bytes ≤ 41 * (plan_ranks * plan_ranks)
  pub moves_small : moves < number_limit

-- room for the output, and how many moves it lists
pub record FitsOutput (old new out : List ℕ) (moves : ℕ) : Type 0 where
  pub tables : PlanTables old new
  pub counted : moves ≡ move_count old new
  pub fits : Fits out 0 (moves_output old new)

-- an output written into a lent buffer that has room for it, with its length
unfoldable pub output_answer : List ℕ → List ℕ → Length × List ℕ
output_answer output out = write_answer (first_failed (check (leb (length output) (length out)) 22 ∷ [])) output out
