-- Document 02, C-11: the leaf counts of refinement strings go on into the table from leaf counts.
use Rattle.std.specs.Prelude.{ℕ, ◌≡◌, true, List, length, take}
use Rattle.offsets.specs.Limits.{rank_count_ok}
use Rattle.leaves.specs.Promises.{MakesTable}
use Rattle.refinement_list.specs.Calls.{leaf_counts}

-- the counts with which the call's list begins
abbrev pub counts_given : List ℕ → List ℕ → List ℕ → List ℕ → List ℕ
counts_given shapes lengths bits out = take (leaf_counts shapes lengths bits out).0.count (leaf_counts shapes lengths bits out).1

-- where the call accepts, these are one for each tree, and table_from_leaves makes their table for every P within its limits
abbrev pub CountsMakeTables : Type 0
CountsMakeTables =
    (shapes lengths bits out : List ℕ) → (leaf_counts shapes lengths bits out).0.refusal ≡ 0
    → (length (counts_given shapes lengths bits out) ≡ length shapes) × ((P : ℕ) → rank_count_ok P ≡ true → MakesTable P (counts_given shapes lengths bits out))
