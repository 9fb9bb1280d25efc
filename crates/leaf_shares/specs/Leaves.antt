-- The partition that leaf counts give.
use Rattle.std.specs.Prelude.{ℕ, ◌+◌, ◌-◌, ◌*◌, ◌/◌, Bool, ◌&&◌, List, leb, ltb, length, get_or}
use Rattle.encoding.specs.Below.{all_below, any_below, count_below, least_below, sum_below}
use Rattle.offsets.specs.Limits.{tree_count_ok}
use Rattle.offsets_write.specs.Partition.{table_of}

abbrev pub max_leaves : ℕ
max_leaves = 16777216

-- K within its limits, each count from 1 to its limit
unfoldable pub leaves_ok : List ℕ → Bool
leaves_ok ls = tree_count_ok (length ls) && all_below (length ls) (λ k. leb 1 (get_or ls k 0) && leb (get_or ls k 0) max_leaves)

-- leaves are numbered tree by tree: the first leaf of tree k
unfoldable pub leaf_start : List ℕ → ℕ → ℕ
leaf_start ls k = sum_below k (λ i. get_or ls i 0)

-- N
unfoldable pub leaf_total : List ℕ → ℕ
leaf_total ls = leaf_start ls (length ls)

-- where a rank's leaves begin: the share v of w of n leaves, rounded up (document 02, C-15)
unfoldable pub cut : ℕ → ℕ → ℕ → ℕ
cut n v w = (n * v + (w - 1)) / w

-- bound p is the first leaf of rank p, bound (p + 1) one past its last
module _ (ls : List ℕ) (bound : ℕ → ℕ) where
  -- tree k is in f(p) exactly when a leaf of rank p is in k
  unfoldable pub leaf_holds : ℕ → ℕ → Bool
  leaf_holds p k =
      any_below (leaf_total ls) (λ l. (leb (leaf_start ls k) l && ltb l (leaf_start ls (k + 1))) && (leb (bound p) l && ltb l (bound (p + 1))))

  unfoldable pub leaf_first : ℕ → ℕ
  leaf_first p = least_below (length ls) (leaf_holds p)

  unfoldable pub leaf_count : ℕ → ℕ
  leaf_count p = count_below (length ls) (leaf_holds p)

-- document 02, C-15: rank p of P gets leaves ceil(N × p / P) up to, but without, ceil(N × (p + 1) / P)
unfoldable pub equal_shares : ℕ → List ℕ → ℕ → ℕ
equal_shares P ls p = cut (leaf_total ls) p P

unfoldable pub leaf_table : ℕ → List ℕ → List ℕ
leaf_table P ls = table_of (leaf_first ls (equal_shares P ls)) (leaf_count ls (equal_shares P ls)) P
