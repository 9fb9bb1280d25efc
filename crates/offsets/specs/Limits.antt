-- How many ranks and trees there may be: ranks as document 02, C-17, trees as document 01 has it.
use Rattle.std.specs.Prelude.{ℕ, Bool, ◌&&◌, leb}

abbrev pub max_ranks : ℕ
max_ranks = 16384

abbrev pub max_trees : ℕ
max_trees = 1048576

-- P from 1 to the limit
unfoldable pub rank_count_ok : ℕ → Bool
rank_count_ok P = leb 1 P && leb P max_ranks

-- K from 1 to the limit
unfoldable pub tree_count_ok : ℕ → Bool
tree_count_ok K = leb 1 K && leb K max_trees
