-- What a negative entry means.
use Rattle.std.specs.Prelude.{ℕ, Bool, ◌&&◌, ◌||◌, List, leb, eqb}
use Rattle.encoding.specs.Below.{all_below, any_below}
use Rattle.offsets.specs.Table.{first_tree, tree_count}
use Rattle.offsets_write.specs.Partition.{non_empty, last_tree}

-- of the ranks below p, q is the nearest that has trees: those between are empty
unfoldable pub nearest_lower : List ℕ → ℕ → ℕ → Bool
nearest_lower t p q = non_empty (first_tree t) (tree_count t) q && all_below p (λ r. leb r q || eqb (tree_count t r) 0)

-- p has trees, and the first is the last tree of the nearest lower rank that has trees
unfoldable pub shares_with_lower : List ℕ → ℕ → Bool
shares_with_lower t p =
    non_empty (first_tree t) (tree_count t) p
    && any_below p (λ q. nearest_lower t p q && eqb (last_tree (first_tree t) (tree_count t) q) (first_tree t p))
