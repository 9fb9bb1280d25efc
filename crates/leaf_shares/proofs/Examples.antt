-- Two tables from leaf counts, computed on the definitions.
use mathlib.Core.Path.{◌≡◌, refl}
use mathlib.Core.List.{[], ◌∷◌}
use Rattle.encoding.specs.Below.{any_below, count_below, least_below, sum_below}
use Rattle.encoding.specs.Numbers.{le_bytes}
use Rattle.offsets.specs.Table.{table_bytes}
use Rattle.offsets.proofs.Examples.{minus}
use Rattle.offsets_write.specs.Partition.{non_empty, end_below, entry_of, entries_below, table_of}
use Rattle.leaf_shares.specs.Leaves.{leaf_start, leaf_total, cut, leaf_holds, leaf_first, leaf_count, equal_shares, leaf_table}

-- leaf counts on three ranks: 4,4 as document 01 and 1,1 as document 02, C-15, has it
pub leaf_tables : (leaf_table 3 (4 ∷ 4 ∷ []) ≡ table_bytes (0 ∷ minus 1 ∷ minus 2 ∷ 2 ∷ [])) × (leaf_table 3 (1 ∷ 1 ∷ []) ≡ table_bytes (0 ∷ 1 ∷ 2 ∷ 2 ∷ []))
unfolding leaf_table table_of entries_below entry_of end_below non_empty leaf_first leaf_count leaf_holds equal_shares cut leaf_total leaf_start sum_below least_below count_below any_below table_bytes le_bytes
leaf_tables = (refl, refl)
