-- What is proved of the calls beyond their contracts.
use Rattle.std.specs.Prelude.{ℕ, ◌≤◌, ◌<◌, ◌≡◌, true, List}
use Rattle.encoding.specs.Pieces.{Bytes}
use Rattle.encoding.specs.Refusal.{first_failed}
use Rattle.offsets.specs.Limits.{rank_count_ok}
use Rattle.offsets.specs.Table.{ranks, ranks_ok, trees, first_tree, end_tree, tree_count, valid}
use Rattle.mesh.specs.Mesh.{mesh_dimension, mesh_trees}
use Rattle.part.specs.Cut.{cut_part}
use Rattle.part.specs.Part.{part_sound}
use Rattle.restart.specs.Restart.{padded_table, empty_part, same_trees, relabelled}
use Rattle.restart.specs.Calls.{pad_checks, empty_checks, pair_checks}

-- the table of n ranks
pub record Padded (table : List ℕ) (n : ℕ) : Type 0 where
  -- is a valid table of n ranks with the same K
  pub counted : ranks_ok (padded_table table n) ≡ true
  pub checked : valid (padded_table table n) ≡ true
  pub many : ranks (padded_table table n) ≡ n
  pub same_k : trees (padded_table table n) ≡ trees table
  -- f(p) is unchanged for every p of both
  pub firsts : (p : ℕ) → p < ranks table → p < n → first_tree (padded_table table n) p ≡ first_tree table p
  pub ends : (p : ℕ) → p < ranks table → p < n → end_tree (padded_table table n) p ≡ end_tree table p
  -- each rank that only the new table has is empty
  pub new_firsts : (p : ℕ) → ranks table ≤ p → p < n → first_tree (padded_table table n) p ≡ trees table
  pub new_counts : (p : ℕ) → ranks table ≤ p → p < n → tree_count (padded_table table n) p ≡ 0
  -- the way back is accepted, and gives the same bytes
  pub accepted : first_failed (pad_checks (padded_table table n) (ranks table)) ≡ 0
  pub back : padded_table (padded_table table n) (ranks table) ≡ table

-- wherever no check fails
abbrev pub PadsTables : Type 0
PadsTables = (table : List ℕ) (n : ℕ) → Bytes table → first_failed (pad_checks table n) ≡ 0 → Padded table n

-- and none fails where a valid table gets as many ranks or more
abbrev pub PadsUp : Type 0
PadsUp = (table : List ℕ) (n : ℕ) → ranks_ok table ≡ true → valid table ≡ true → rank_count_ok n ≡ true → ranks table ≤ n → first_failed (pad_checks table n) ≡ 0

-- the part of a rank without trees is sound, and what is cut out of every mesh of that K and dimension
pub record EmptyIs (table : List ℕ) (rank dimension : ℕ) : Type 0 where
  pub sound : part_sound (empty_part table rank dimension) table rank ≡ true
  pub cut : (mesh : List ℕ) → mesh_trees mesh ≡ trees table → mesh_dimension mesh ≡ dimension → cut_part mesh table rank ≡ empty_part table rank dimension

-- wherever no check fails
abbrev pub EmptyParts : Type 0
EmptyParts = (table : List ℕ) (rank dimension : ℕ) → Bytes table → first_failed (empty_checks table rank dimension) ≡ 0 → EmptyIs table rank dimension

-- two parts that are sound for the first table and rank
pub record EqualBoth (a b other : List ℕ) (q : ℕ) : Type 0 where
  pub parts : relabelled a other q ≡ relabelled b other q → a ≡ b
  pub labels : a ≡ b → relabelled a other q ≡ relabelled b other q

-- parts under another table and rank
pub record Relabels (table : List ℕ) (rank : ℕ) (other : List ℕ) (q : ℕ) : Type 0 where
  -- what is cut out of a mesh for the one is what is cut out of it for the other
  pub cuts : (mesh : List ℕ) → relabelled (cut_part mesh table rank) other q ≡ cut_part mesh other q
  -- sound goes to sound
  pub sounds : (part : List ℕ) → part_sound part table rank ≡ true → part_sound (relabelled part other q) other q ≡ true
  -- there and back gives the same bytes
  pub back : (part : List ℕ) → Bytes part → part_sound part table rank ≡ true → relabelled (relabelled part other q) table rank ≡ part
  -- parts are equal exactly where the relabelled ones are
  pub equal : (a b : List ℕ) → Bytes a → Bytes b → part_sound a table rank ≡ true → part_sound b table rank ≡ true → EqualBoth a b other q

-- wherever both ranks have the same trees
abbrev pub RelabelsParts : Type 0
RelabelsParts =
    (table : List ℕ) (rank : ℕ) (other : List ℕ) (q : ℕ) → Bytes table → Bytes other → first_failed (pair_checks table rank other q) ≡ 0 → same_trees table rank other q ≡ true
    → Relabels table rank other q
