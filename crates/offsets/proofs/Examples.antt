-- Document 01's examples, computed on the definitions.
use Prim.Native.Nat.{ℕ, ◌-◌, ◌^◌}
use mathlib.Core.Path.{◌≡◌, refl}
use mathlib.Core.Bool.{true}
use mathlib.Core.List.{[], ◌∷◌}
use Rattle.encoding.specs.Below.{all_below}
use Rattle.encoding.specs.Pieces.{piece}
use Rattle.encoding.specs.Numbers.{le_value, le_bytes, le_at}
use Rattle.encoding.specs.Refusal.{first_failed}
use Rattle.offsets.specs.Limits.{rank_count_ok, tree_count_ok}
use Rattle.offsets.specs.Table.{ranks, ranks_ok, entry, negative, magnitude, first_of, trees, first_tree, end_tree, tree_count, holds, entries_within, counts_ok, valid, table_bytes}
use Rattle.offsets.specs.Calls.{table_refusal}

-- the 64 bits of −n
abbrev pub minus : ℕ → ℕ
minus n = 2 ^ 64 - n

-- the nine tables: five are valid, four are refused
pub nine_tables_lem : (table_refusal (table_bytes (0 ∷ 1 ∷ [])) ≡ 0)
    × (table_refusal (table_bytes (0 ∷ minus 1 ∷ 1 ∷ [])) ≡ 0)
    × (table_refusal (table_bytes (0 ∷ 0 ∷ 0 ∷ 5 ∷ [])) ≡ 0)
    × (table_refusal (table_bytes (0 ∷ 3 ∷ minus 3 ∷ 5 ∷ [])) ≡ 0)
    × (table_refusal (table_bytes (0 ∷ minus 3 ∷ minus 3 ∷ 5 ∷ [])) ≡ 0)
    × (table_refusal (table_bytes (0 ∷ 0 ∷ [])) ≡ 3)
    × (table_refusal (table_bytes (minus 1 ∷ 1 ∷ [])) ≡ 3)
    × (table_refusal (table_bytes (0 ∷ 4 ∷ 3 ∷ 5 ∷ [])) ≡ 3)
    × (table_refusal (table_bytes (0 ∷ minus 4 ∷ minus 3 ∷ 5 ∷ [])) ≡ 3)
unfolding table_refusal first_failed table_bytes le_bytes ranks_ok rank_count_ok ranks valid entry le_at piece le_value tree_count_ok trees entries_within counts_ok all_below magnitude negative first_of first_tree end_tree
nine_tables_lem = (refl, refl, refl, refl, refl, refl, refl, refl, refl)

-- {0,3,-3,5}: rank 1 is empty, tree 2 is on ranks 0 and 2
pub shared_tree : (tree_count (table_bytes (0 ∷ 3 ∷ minus 3 ∷ 5 ∷ [])) 1 ≡ 0)
    × (holds (table_bytes (0 ∷ 3 ∷ minus 3 ∷ 5 ∷ [])) 0 2 ≡ true)
    × (holds (table_bytes (0 ∷ 3 ∷ minus 3 ∷ 5 ∷ [])) 2 2 ≡ true)
unfolding holds tree_count first_tree end_tree first_of magnitude negative entry le_at piece le_value table_bytes le_bytes
shared_tree = (refl, refl, refl)
