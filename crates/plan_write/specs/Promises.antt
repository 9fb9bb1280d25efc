-- Which moves the output lists, and which trees each moves.
use Rattle.std.specs.Prelude.{ℕ, ◌+◌, ◌-◌, ◌<◌, ◌≡◌, true, ◌&&◌, List, ◌++◌, leb, ltb, length, get_or}
use Rattle.offsets.specs.Table.{ranks, trees}
use Rattle.pattern.specs.Sender.{Tables, sends, sent_first, sent_count}
use Rattle.pattern.specs.Sets.{sends_to}
use Rattle.plan_read.specs.Text.{ranks_word}
use Rattle.plan_write.specs.Moves.{trees_word, messages_word, line_text, moves_output}
use Rattle.plan_write.specs.Pairs.{listed, earlier, move_pairs, move_lines}

-- the output of two tables lists the moves of a list of pairs
pub record MovesPrinted (old new : List ℕ) : Type 0 where
  -- P, K, a line for each pair, and how many there are
  pub lines : moves_output old new
      ≡ line_text ranks_word (ranks old)
      ++ (line_text trees_word (trees old) ++ (move_lines old new (move_pairs old new (ranks old)) ++ line_text messages_word (length (move_pairs old new (ranks old)))))
  -- the pairs are those of two ranks of which the first sends the second a tree
  pub exact : (p q : ℕ) → listed p q (move_pairs old new (ranks old)) ≡ (ltb p (ranks old) && (ltb q (ranks old) && sends_to old new p q))
  -- each once, by sender and then receiver
  pub ascend : (i j : ℕ) (d : ℕ × ℕ) → i < j → j < length (move_pairs old new (ranks old))
      → earlier (get_or (move_pairs old new (ranks old)) i d) (get_or (move_pairs old new (ranks old)) j d) ≡ true
  -- the trees from the first to the last of a pair's line are those that it moves
  pub moved : (p q : ℕ) → p < ranks old → q < ranks old → sends_to old new p q ≡ true → (k : ℕ) → k < trees old
      → sends old new p q k ≡ (leb (sent_first old new p q) k && leb k (sent_first old new p q + sent_count old new p q - 1))

-- two tables that agree
abbrev pub PlanMoves : Type 0
PlanMoves = (old new : List ℕ) → Tables old new → MovesPrinted old new
