-- Document 01's refused tables, with the first fault of each, computed on the definitions.
use mathlib.Core.Path.{◌≡◌, refl}
use mathlib.Core.List.{[], ◌∷◌}
use Rattle.encoding.specs.Below.{any_below, least_below}
use Rattle.encoding.specs.Pieces.{piece}
use Rattle.encoding.specs.Numbers.{le_value, le_bytes, le_at}
use Rattle.encoding.specs.Refusal.{first_failed}
use Rattle.offsets.specs.Limits.{rank_count_ok, tree_count_ok}
use Rattle.offsets.specs.Table.{ranks, ranks_ok, entry, negative, magnitude, first_of, trees, first_tree, end_tree, table_bytes}
use Rattle.offsets.proofs.Examples.{minus}
use Rattle.faults.specs.Answer.{wrong, no_fault, fault_at, first_place, first_fault}
use Rattle.faults.specs.Calls.{fault_answer}
use Rattle.table_fault.specs.Table.{entry_kind}
use Rattle.table_fault.specs.Calls.{table_fault_of}

-- {0,0}: K; {-1,1}: the first entry; {0,4,3,5}: a negative count; {0,-4,-3,5}: an empty rank with a negative entry; {0,3,-3,5} is valid
pub tables_told : (table_fault_of (table_bytes (0 ∷ 0 ∷ [])) ≡ fault_at 3 1 (wrong 2 0))
    × (table_fault_of (table_bytes (minus 1 ∷ 1 ∷ [])) ≡ fault_at 3 0 (wrong 1 0))
    × (table_fault_of (table_bytes (0 ∷ 4 ∷ 3 ∷ 5 ∷ [])) ≡ fault_at 3 1 (wrong 4 0))
    × (table_fault_of (table_bytes (0 ∷ minus 4 ∷ minus 3 ∷ 5 ∷ [])) ≡ fault_at 3 1 (wrong 5 0))
    × (table_fault_of (table_bytes (0 ∷ 3 ∷ minus 3 ∷ 5 ∷ [])) ≡ no_fault)
unfolding table_fault_of fault_answer first_failed first_fault first_place any_below least_below entry_kind table_bytes le_bytes ranks_ok rank_count_ok ranks entry le_at piece le_value tree_count_ok trees magnitude negative first_of first_tree end_tree
tables_told = (refl, refl, refl, refl, refl)
