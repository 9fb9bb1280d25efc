-- What a loop over the numbers below n finds. f is a test, g a number for each index.
use Rattle.std.specs.Prelude.{ℕ, zero, suc, ◌+◌, Bool, true, false, cond, ◌&&◌, ◌||◌, List, [], ◌∷◌, ◌++◌, eqb}

-- f holds of every number below n
unfoldable pub all_below : ℕ → (ℕ → Bool) → Bool
all_below zero f = true
all_below (suc n) f = all_below n f && f n

-- f holds of some number below n
unfoldable pub any_below : ℕ → (ℕ → Bool) → Bool
any_below zero f = false
any_below (suc n) f = any_below n f || f n

-- how many numbers below n pass f
unfoldable pub count_below : ℕ → (ℕ → Bool) → ℕ
count_below zero f = 0
count_below (suc n) f = count_below n f + cond (f n) 1 0

-- the least number below n that passes f; n where none does
unfoldable pub least_below : ℕ → (ℕ → Bool) → ℕ
least_below zero f = 0
least_below (suc n) f = cond (any_below n f) (least_below n f) (cond (f n) n (suc n))

-- the sum of g over the numbers below n
unfoldable pub sum_below : ℕ → (ℕ → ℕ) → ℕ
sum_below zero g = 0
sum_below (suc n) g = sum_below n g + g n

-- the ascending filter: the numbers below n that pass f, in order
unfoldable pub kept_below : ℕ → (ℕ → Bool) → List ℕ
kept_below zero f = []
kept_below (suc n) f = kept_below n f ++ cond (f n) (n ∷ []) []

-- k is in the list
unfoldable pub member : ℕ → List ℕ → Bool
member k [] = false
member k (x ∷ xs) = eqb k x || member k xs
