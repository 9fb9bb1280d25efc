-- Document 02, C-19: leaf totals by blocks of 256 trees, each with a sum that the caller gives.
use Rattle.std.specs.Prelude.{ℕ, zero, suc, ◌+◌, ◌*◌, ◌/◌, Bool, ◌&&◌, List, [], ◌∷◌, eqb, length, get_or}
use Rattle.encoding.specs.Below.{all_below, sum_below}
use Rattle.offsets_write.specs.Partition.{table_of}
use Rattle.leaf_shares.specs.Leaves.{cut, leaf_first, leaf_count}

-- the number of blocks of K trees
unfoldable pub block_count : ℕ → ℕ
block_count K = (K + 255) / 256

-- the leaves of trees 256 b up to 256 b + 255, as far as there are such
unfoldable pub block_sum : List ℕ → ℕ → ℕ
block_sum ls b = sum_below 256 (λ i. get_or ls (256 * b + i) 0)

-- as many sums as blocks, each that of its block
unfoldable pub sums_ok : List ℕ → List ℕ → Bool
sums_ok ls sums = eqb (length sums) (block_count (length ls)) && all_below (length sums) (λ b. eqb (get_or sums b 0) (block_sum ls b))

-- sums added in pairs; a lone one goes up unchanged
unfoldable pub pairs : List ℕ → List ℕ
pairs [] = []
pairs (a ∷ []) = a ∷ []
pairs (a ∷ b ∷ rest) = (a + b) ∷ pairs rest

-- then pairs of pairs, and so on
unfoldable pub rounds : ℕ → List ℕ → List ℕ
rounds zero sums = sums
rounds (suc n) sums = rounds n (pairs sums)

-- the one that is left; as many rounds as sums are more than enough
unfoldable pub pair_total : List ℕ → ℕ
pair_total sums = get_or (rounds (length sums) sums) 0 0

-- where rank p of P begins, and the table, from that total
unfoldable pub block_shares : ℕ → List ℕ → ℕ → ℕ
block_shares P sums p = cut (pair_total sums) p P

unfoldable pub block_table : ℕ → List ℕ → List ℕ → List ℕ
block_table P ls sums = table_of (leaf_first ls (block_shares P sums)) (leaf_count ls (block_shares P sums)) P
