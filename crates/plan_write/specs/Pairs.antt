-- The moves as pairs of a sender and a receiver.
use Rattle.std.specs.Prelude.{ℕ, zero, suc, Bool, false, ◌&&◌, ◌||◌, List, [], ◌∷◌, ◌++◌, ltb, eqb}
use Rattle.pattern.specs.Sets.{send_set}
use Rattle.plan_write.specs.Moves.{move_text}

-- a pair is in a list
unfoldable pub listed : ℕ → ℕ → List (ℕ × ℕ) → Bool
listed p q [] = false
listed p q (m ∷ ms) = eqb p m.0 && eqb q m.1 || listed p q ms

-- a pair comes before another: by sender and then receiver
unfoldable pub earlier : ℕ × ℕ → ℕ × ℕ → Bool
earlier m n = ltb m.0 n.0 || (eqb m.0 n.0 && ltb m.1 n.1)

-- a sender beside each receiver of a list
unfoldable pub pairs_of : ℕ → List ℕ → List (ℕ × ℕ)
pairs_of p [] = []
pairs_of p (q ∷ qs) = (p, q) ∷ pairs_of p qs

module _ (old new : List ℕ) where
  -- the pairs whose sender is below n: each sender beside its send set
  unfoldable pub move_pairs : ℕ → List (ℕ × ℕ)
  move_pairs zero = []
  move_pairs (suc n) = move_pairs n ++ pairs_of n (send_set old new n)

  -- their lines
  unfoldable pub move_lines : List (ℕ × ℕ) → List ℕ
  move_lines [] = []
  move_lines (m ∷ ms) = move_text old new m.0 m.1 ++ move_lines ms
