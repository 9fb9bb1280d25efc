-- What is promised of the counts of a list.
use Rattle.std.specs.Prelude.{ℕ, ◌<◌, ◌≡◌, List, length, get_or}
use Rattle.refinement.specs.Calls.{count_leaves}
use Rattle.refinement_list.specs.Calls.{string_of, leaf_counts}

-- in a list each tree is accepted by itself, and has the count that it has by itself
abbrev pub EachAsAlone : Type 0
EachAsAlone =
    (shapes lengths bits out : List ℕ) → (leaf_counts shapes lengths bits out).0.refusal ≡ 0 → (k : ℕ) → k < length shapes →
    ((count_leaves (get_or shapes k 0) (string_of lengths bits k)).refusal ≡ 0)
    × (get_or (leaf_counts shapes lengths bits out).1 k 0 ≡ (count_leaves (get_or shapes k 0) (string_of lengths bits k)).leaves)
