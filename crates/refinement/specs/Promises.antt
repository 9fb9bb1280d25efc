-- What is promised of the strings and of the counts.
use Rattle.std.specs.Prelude.{ℕ, zero, suc, ◌+◌, ◌≤◌, ◌≡◌, true, false, List, [], ◌∷◌, eqb}
use Rattle.leaf_shares.specs.Leaves.{max_leaves}
use Rattle.refinement.specs.Refinement.{Row, upright, inverted, refinable, refines, bits, leaves}
use Rattle.refinement.specs.Reading.{string_ok, refinement_of}
use Rattle.refinement.specs.Calls.{tree_leaves, count_refusal, count_leaves}

-- an accepted string is that of its refinement, and of no other
abbrev pub AcceptedIsWritten : Type 0
AcceptedIsWritten =
    (shape : ℕ) (s : List ℕ) → string_ok shape s ≡ true →
    ((refines shape (refinement_of shape s) ≡ true) × (s ≡ bits (refinement_of shape s))) × ((r : Row) → refines shape r ≡ true → s ≡ bits r → r ≡ refinement_of shape s)

-- the string of every refinement is accepted and read back
abbrev pub WrittenIsAccepted : Type 0
WrittenIsAccepted = (shape : ℕ) (r : Row) → refines shape r ≡ true → (string_ok shape (bits r) ≡ true) × (refinement_of shape (bits r) ≡ r)

-- accepted strings of one refinement are one string
abbrev pub OnlyString : Type 0
OnlyString = (shape : ℕ) (s t : List ℕ) → string_ok shape s ≡ true → string_ok shape t ≡ true → refinement_of shape s ≡ refinement_of shape t → s ≡ t

-- the answer for a refinement's string is its upright leaves, its inverted ones, and their sum
abbrev pub CountsAreLeaves : Type 0
CountsAreLeaves =
    (shape : ℕ) (r : Row) → refinable shape ≡ true → refines shape r ≡ true → leaves shape upright r + leaves shape inverted r ≤ max_leaves →
    count_leaves shape (bits r) ≡ record { refusal = 0; upright = leaves shape upright r; inverted = leaves shape inverted r; leaves = leaves shape upright r + leaves shape inverted r }

-- how many bytes of a string are 0
unfoldable pub zero_bytes : List ℕ → ℕ
zero_bytes [] = 0
zero_bytes (zero ∷ s) = suc (zero_bytes s)
zero_bytes (suc b ∷ s) = zero_bytes s

-- 0 is a leaf, and no leaf is lost: an accepted string has as many leaves of both kinds as bytes 0
abbrev pub EveryLeafCounted : Type 0
EveryLeafCounted =
    (shape : ℕ) (s : List ℕ) → (count_leaves shape s).refusal ≡ 0 →
    ((count_leaves shape s).upright + (count_leaves shape s).inverted ≡ zero_bytes s) × ((count_leaves shape s).leaves ≡ zero_bytes s)

-- only triangles have inverted leaves: other shapes count every leaf as upright
abbrev pub OthersUpright : Type 0
OthersUpright =
    (shape : ℕ) → eqb shape 1 ≡ false →
    ((r : Row) → leaves shape inverted r ≡ 0)
    × ((s : List ℕ) → (count_leaves shape s).refusal ≡ 0 → ((count_leaves shape s).upright ≡ zero_bytes s) × ((count_leaves shape s).inverted ≡ 0))

-- one tree's count is within the limits of a leaf count
abbrev pub CountInLimits : Type 0
CountInLimits = (shape : ℕ) (s : List ℕ) → count_refusal shape s ≡ 0 → (1 ≤ tree_leaves shape s) × (tree_leaves shape s ≤ max_leaves)
