-- A set of numbers: bit k mod 64 of word k div 64 is set for a member k.
use Rattle.std.specs.Prelude.{ℕ, ◌+◌, ◌-◌, ◌/◌, ◌%◌, ◌^◌, Bool, cond, List, eqb, get_or, set}
use Rattle.encoding.specs.Below.{least_below}

-- bit b of a word
unfoldable pub bit_of : ℕ → ℕ → Bool
bit_of w b = eqb (w / 2 ^ b % 2) 1

-- the word with bit b set
unfoldable pub with_bit : ℕ → ℕ → ℕ
with_bit w b = cond (bit_of w b) w (w + 2 ^ b)

-- k is a member
unfoldable pub in_set : List ℕ → ℕ → Bool
in_set ws k = bit_of (get_or ws (k / 64) 0) (k % 64)

-- the set with k
unfoldable pub with_member : List ℕ → ℕ → List ℕ
with_member ws k = set ws (k / 64) (with_bit (get_or ws (k / 64) 0) (k % 64))

-- the least number from k on, and below n, that passes f; n where none does
unfoldable pub least_from : ℕ → ℕ → (ℕ → Bool) → ℕ
least_from n k f = k + least_below (n - k) (λ i. f (k + i))
