-- Examples: a triangle refined in its middle child, and in its last one; 20 refined elements inside one another, and 21.
use Prim.Native.Nat.{ℕ}
use mathlib.Core.Path.{◌≡◌, refl}
use mathlib.Core.List.{List, [], ◌∷◌, ◌++◌}
use lib.ListN.{replicate}
use Rattle.encoding.specs.Refusal.{first_failed}
use Rattle.refinement.specs.Refinement.{refinable, children, child_kinds, leaves_in, leaves}
use Rattle.refinement.specs.Reading.{read_row, read_children, read_tree, whole, row_read, string_ok, refinement_of}
use Rattle.refinement.specs.Calls.{upright_leaves, inverted_leaves, tree_leaves, count_refusal, leaves_answer, count_leaves}

-- refined elements inside one another, then leaves
abbrev nested : ℕ → ℕ → List ℕ
nested m n = replicate m 1 ++ replicate n 0

pub string-examples :
    ((count_leaves 1 (1 ∷ 0 ∷ 0 ∷ 1 ∷ 0 ∷ 0 ∷ 0 ∷ 0 ∷ 0 ∷ []) ≡ record { refusal = 0; upright = 4; inverted = 3; leaves = 7 })
    × (count_leaves 1 (1 ∷ 0 ∷ 0 ∷ 0 ∷ 1 ∷ 0 ∷ 0 ∷ 0 ∷ 0 ∷ []) ≡ record { refusal = 0; upright = 5; inverted = 2; leaves = 7 }))
    × ((count_leaves 0 (nested 20 61) ≡ record { refusal = 0; upright = 61; inverted = 0; leaves = 61 })
    × (count_leaves 0 (nested 21 64) ≡ record { refusal = 23; upright = 0; inverted = 0; leaves = 0 }))
unfolding count_leaves count_refusal leaves_answer first_failed upright_leaves inverted_leaves tree_leaves leaves leaves_in string_ok refinement_of read_tree read_children read_row whole row_read refinable children child_kinds
string-examples = ((refl, refl), (refl, refl))
