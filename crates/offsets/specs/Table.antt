-- Offset tables: bytes, their entries, and the range f(p) of each rank.
use Rattle.std.specs.Prelude.{ℕ, ◌+◌, ◌-◌, ◌*◌, ◌/◌, ◌^◌, Bool, cond, ◌&&◌, List, [], ◌∷◌, ◌++◌, leb, ltb, eqb, length}
use Rattle.encoding.specs.Below.{all_below}
use Rattle.encoding.specs.Numbers.{le_bytes, u64_at}
use Rattle.offsets.specs.Limits.{rank_count_ok, tree_count_ok}

-- the bytes of a table of P ranks: P + 1 entries of 64 bits
abbrev pub table_length : ℕ → ℕ
table_length P = 8 * (P + 1)

-- P, from the table's length
unfoldable pub ranks : List ℕ → ℕ
ranks t = length t / 8 - 1

-- the length is that of a table, and P is within its limits
unfoldable pub ranks_ok : List ℕ → Bool
ranks_ok t = eqb (length t) (table_length (ranks t)) && rank_count_ok (ranks t)

-- O[p] as its 64 bits
unfoldable pub entry : List ℕ → ℕ → ℕ
entry t p = u64_at t (8 * p)

-- the bytes of a table with these entries
unfoldable pub table_bytes : List ℕ → List ℕ
table_bytes [] = []
table_bytes (v ∷ vs) = le_bytes 8 v ++ table_bytes vs

-- 64 bits are a negative number from 2 ^ 63 on
unfoldable pub negative : ℕ → Bool
negative v = leb (2 ^ 63) v

-- |v|
unfoldable pub magnitude : ℕ → ℕ
magnitude v = cond (negative v) (2 ^ 64 - v) v

-- v if v ≥ 0, else −v−1
unfoldable pub first_of : ℕ → ℕ
first_of v = cond (negative v) (2 ^ 64 - v - 1) v

-- K = O[P]
unfoldable pub trees : List ℕ → ℕ
trees t = entry t (ranks t)

-- the first tree of p, one past its last, and how many there are
unfoldable pub first_tree : List ℕ → ℕ → ℕ
first_tree t p = first_of (entry t p)

unfoldable pub end_tree : List ℕ → ℕ → ℕ
end_tree t p = magnitude (entry t (p + 1))

unfoldable pub tree_count : List ℕ → ℕ → ℕ
tree_count t p = end_tree t p - first_tree t p

-- k is in f(p)
unfoldable pub holds : List ℕ → ℕ → ℕ → Bool
holds t p k = leb (first_tree t p) k && ltb k (end_tree t p)

-- no entry is above K or below −K
unfoldable pub entries_within : List ℕ → Bool
entries_within t = all_below (ranks t + 1) (λ p. leb (magnitude (entry t p)) (trees t))

-- each count is at least 0, and at least 1 where O[p] is negative
unfoldable pub counts_ok : List ℕ → Bool
counts_ok t = all_below (ranks t) (λ p. cond (negative (entry t p)) (ltb (first_tree t p) (end_tree t p)) (leb (first_tree t p) (end_tree t p)))

-- the table is valid
unfoldable pub valid : List ℕ → Bool
valid t = eqb (entry t 0) 0 && tree_count_ok (trees t) && entries_within t && counts_ok t
