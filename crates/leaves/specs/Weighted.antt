-- Document 02, C-16: the partition that leaf counts give to ranks of unequal speed. P is the number of weights.
use Rattle.std.specs.Prelude.{ℕ, ◌+◌, ◌-◌, Bool, ◌&&◌, List, leb, ltb, length, get_or}
use Rattle.encoding.specs.Below.{all_below, sum_below}
use Rattle.offsets_write.specs.Partition.{table_of}
use Rattle.leaf_shares.specs.Leaves.{leaf_total, cut, leaf_first, leaf_count}

abbrev pub max_weight : ℕ
max_weight = 65535

-- V: the sum of the weights of the ranks below p
unfoldable pub weight_before : List ℕ → ℕ → ℕ
weight_before ws p = sum_below p (λ i. get_or ws i 0)

-- W
unfoldable pub weight_total : List ℕ → ℕ
weight_total ws = weight_before ws (length ws)

-- no weight is above its limit, and not all are 0
unfoldable pub weights_ok : List ℕ → Bool
weights_ok ws = all_below (length ws) (λ p. leb (get_or ws p 0) max_weight) && ltb 0 (weight_total ws)

-- rank p of weight w gets leaves ceil(N × V / W) up to, but without, ceil(N × (V + w) / W)
unfoldable pub weighted_shares : List ℕ → List ℕ → ℕ → ℕ
weighted_shares ws ls p = cut (leaf_total ls) (weight_before ws p) (weight_total ws)

-- how many leaves rank p gets
unfoldable pub share_of : List ℕ → List ℕ → ℕ → ℕ
share_of ws ls p = weighted_shares ws ls (p + 1) - weighted_shares ws ls p

unfoldable pub weighted_table : List ℕ → List ℕ → List ℕ
weighted_table ws ls = table_of (leaf_first ls (weighted_shares ws ls)) (leaf_count ls (weighted_shares ws ls)) (length ws)
