-- Parts of P ranks on another number of ranks: the table of more or fewer ranks, the part of a rank without trees, and a part under another table and rank.
use Rattle.std.specs.Prelude.{ℕ, zero, suc, ◌+◌, Bool, cond, ◌&&◌, ◌||◌, List, [], ◌++◌, leb, ltb, eqb}
use Rattle.encoding.specs.Below.{all_below}
use Rattle.encoding.specs.Numbers.{le_bytes}
use Rattle.encoding.specs.Pieces.{splice}
use Rattle.offsets.specs.Table.{ranks, entry, trees, first_tree, tree_count}
use Rattle.part.specs.Layout.{header_bytes}

-- entry p of the table with other ranks: the table's own while it has one, then K to the end
unfoldable pub padded_entry : List ℕ → ℕ → ℕ
padded_entry table p = cond (leb p (ranks table)) (entry table p) (trees table)

-- the first n of these entries
unfoldable pub padded_entries : List ℕ → ℕ → List ℕ
padded_entries table zero = []
padded_entries table (suc p) = padded_entries table p ++ le_bytes 8 (padded_entry table p)

-- the table of n ranks
unfoldable pub padded_table : List ℕ → ℕ → List ℕ
padded_table table n = padded_entries table (n + 1)

-- rank p is one of n, or has no trees
unfoldable pub in_or_empty : List ℕ → ℕ → ℕ → Bool
in_or_empty table n p = ltb p n || eqb (tree_count table p) 0

-- no rank that the table of n ranks leaves out has trees
unfoldable pub left_out_empty : List ℕ → ℕ → Bool
left_out_empty table n = all_below (ranks table) (in_or_empty table n)

-- the part of a rank without trees: the header alone
unfoldable pub empty_part : List ℕ → ℕ → ℕ → List ℕ
empty_part table rank dimension = header_bytes dimension (trees table) (ranks table) rank (first_tree table rank) 0 0

-- two tables and ranks with the same trees: K, first tree and count are equal
unfoldable pub same_trees : List ℕ → ℕ → List ℕ → ℕ → Bool
same_trees table rank other q =
    eqb (trees table) (trees other) && eqb (first_tree table rank) (first_tree other q) && eqb (tree_count table rank) (tree_count other q)

-- the part under another table and rank: only P and rank, in bytes 8 to 15, change
unfoldable pub relabelled : List ℕ → List ℕ → ℕ → List ℕ
relabelled part other q = splice part 8 (le_bytes 4 (ranks other) ++ le_bytes 4 q)
