-- The output's lines, in ASCII: 10 is LF, 44 comma.
use Rattle.std.specs.Prelude.{ℕ, zero, suc, ◌+◌, ◌-◌, cond, List, [], ◌∷◌, ◌++◌}
use Rattle.encoding.specs.Below.{count_below, sum_below}
use Rattle.offsets.specs.Table.{ranks, trees}
use Rattle.pattern.specs.Sender.{sent_first, sent_count}
use Rattle.pattern.specs.Sets.{sends_to}
use Rattle.plan_read.specs.Text.{decimal, ranks_word}

-- the program's own limit of P
abbrev pub plan_ranks : ℕ
plan_ranks = 1024

-- `trees=`: t, r, e, e, s, =
abbrev pub trees_word : List ℕ
trees_word = 116 ∷ 114 ∷ 101 ∷ 101 ∷ 115 ∷ 61 ∷ []

-- `move=`: m, o, v, e, =
abbrev pub move_word : List ℕ
move_word = 109 ∷ 111 ∷ 118 ∷ 101 ∷ 61 ∷ []

-- `messages=`: m, e, s, s, a, g, e, s, =
abbrev pub messages_word : List ℕ
messages_word = 109 ∷ 101 ∷ 115 ∷ 115 ∷ 97 ∷ 103 ∷ 101 ∷ 115 ∷ 61 ∷ []

-- `refused=`: r, e, f, u, s, e, d, =
abbrev pub refused_word : List ℕ
refused_word = 114 ∷ 101 ∷ 102 ∷ 117 ∷ 115 ∷ 101 ∷ 100 ∷ 61 ∷ []

-- a line of a word and a number
unfoldable pub line_text : List ℕ → ℕ → List ℕ
line_text word n = word ++ (decimal n ++ (10 ∷ []))

module _ (old new : List ℕ) where
  -- sender, receiver, first and last tree
  unfoldable pub move_text : ℕ → ℕ → List ℕ
  move_text p q =
      move_word
      ++ (decimal p ++ (44 ∷ (decimal q ++ (44 ∷ (decimal (sent_first old new p q) ++ (44 ∷ (decimal (sent_first old new p q + sent_count old new p q - 1) ++ (10 ∷ []))))))))

  -- the moves from p to the ranks below n
  unfoldable pub moves_from : ℕ → ℕ → List ℕ
  moves_from p zero = []
  moves_from p (suc n) = moves_from p n ++ cond (sends_to old new p n) (move_text p n) []

  -- the moves from the ranks below n, by sender and then receiver
  unfoldable pub moves_text : ℕ → List ℕ
  moves_text zero = []
  moves_text (suc n) = moves_text n ++ moves_from n (ranks old)

  -- how many there are
  unfoldable pub move_count : ℕ
  move_count = sum_below (ranks old) (λ p. count_below (ranks old) (sends_to old new p))

  unfoldable pub moves_output : List ℕ
  moves_output =
      line_text ranks_word (ranks old) ++ (line_text trees_word (trees old) ++ (moves_text (ranks old) ++ line_text messages_word move_count))
