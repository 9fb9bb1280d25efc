-- Partitions, given by a first tree and a count for each rank, and their tables.
use Rattle.std.specs.Prelude.{ℕ, zero, suc, ◌+◌, ◌-◌, ◌^◌, ◌<◌, Bool, true, cond, ◌&&◌, List, [], ◌++◌, leb, ltb, length, ◌≡◌}
use Rattle.encoding.specs.Below.{all_below, any_below}
use Rattle.encoding.specs.Numbers.{le_bytes}
use Rattle.encoding.specs.Pieces.{Bytes}
use Rattle.offsets.specs.Limits.{tree_count_ok}
use Rattle.offsets.specs.Table.{table_length, valid, trees, first_tree, tree_count}

module _ (first count : ℕ → ℕ) where
  -- rank p has trees
  unfoldable pub non_empty : ℕ → Bool
  non_empty p = ltb 0 (count p)

  -- tree k is on rank p: a rank's trees are consecutive
  unfoldable pub on_rank : ℕ → ℕ → Bool
  on_rank p k = leb (first p) k && ltb k (first p + count p)

  -- the last tree of a rank that has trees
  unfoldable pub last_tree : ℕ → ℕ
  last_tree p = first p + count p - 1

  -- every tree below K is on some rank of P
  unfoldable pub covers_all : ℕ → ℕ → Bool
  covers_all P K = all_below K (λ k. any_below P (λ p. on_rank p k))

  -- no rank has a tree from K on
  unfoldable pub covers_only : ℕ → ℕ → Bool
  covers_only P K = all_below P (λ p. cond (non_empty p) (ltb (last_tree p) K) true)

  -- ascending and sharing only end trees: last(p) ≤ first(q) for p < q that have trees
  unfoldable pub ascending : ℕ → Bool
  ascending P = all_below P (λ q. all_below q (λ p. cond (non_empty p && non_empty q) (leb (last_tree p) (first q)) true))

  -- a valid partition of K trees on P ranks
  unfoldable pub valid_partition : ℕ → ℕ → Bool
  valid_partition P K = covers_all P K && covers_only P K && ascending P

-- t is a table of the partition: a valid table of P ranks and K trees that gives each rank its count and, where that isn't 0, its first tree
pub record IsTable (first count : ℕ → ℕ) (P K : ℕ) (t : List ℕ) : Type 0 where
  pub bytes : Bytes t
  pub size : length t ≡ table_length P
  pub is_valid : valid t ≡ true
  pub trees_are : trees t ≡ K
  pub counts : (p : ℕ) → p < P → tree_count t p ≡ count p
  pub firsts : (p : ℕ) → p < P → 0 < count p → first_tree t p ≡ first p

module _ (first count : ℕ → ℕ) where
  -- one past the last tree on the ranks below p; 0 where they have none
  unfoldable pub end_below : ℕ → ℕ
  end_below zero = 0
  end_below (suc p) = cond (non_empty first count p) (first p + count p) (end_below p)

  -- the ranges are a valid partition of a number of trees within its limits
  unfoldable pub ranges_fit : ℕ → Bool
  ranges_fit P = tree_count_ok (end_below P) && valid_partition first count P (end_below P)

  -- O[p]: the trees on lower ranks end there, with a minus sign where the first tree of p is one of them
  unfoldable pub entry_of : ℕ → ℕ
  entry_of p = cond (non_empty first count p && ltb (first p) (end_below p)) (2 ^ 64 - end_below p) (end_below p)

  -- the first p entries
  unfoldable pub entries_below : ℕ → List ℕ
  entries_below zero = []
  entries_below (suc p) = entries_below p ++ le_bytes 8 (entry_of p)

  -- the table of the partition; O[P] = K. Where the partition is valid, this is a table of it, and no other list of bytes is one: `one_table` (proofs/Partitions.antt)
  unfoldable pub table_of : ℕ → List ℕ
  table_of P = entries_below P ++ le_bytes 8 (end_below P)
