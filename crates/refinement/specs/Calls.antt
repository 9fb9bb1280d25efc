-- What the call answers, refusals included.
use Rattle.std.specs.Prelude.{ℕ, ◌+◌, cond, List, [], ◌∷◌, leb, eqb}
use Rattle.encoding.specs.Refusal.{check, first_failed}
use Rattle.leaf_shares.specs.Leaves.{max_leaves}
use Rattle.refinement.specs.declared.Leaves.{Leaves}
use Rattle.refinement.specs.Refinement.{upright, inverted, refinable, leaves}
use Rattle.refinement.specs.Reading.{string_ok, refinement_of}

unfoldable pub upright_leaves : ℕ → List ℕ → ℕ
upright_leaves shape s = leaves shape upright (refinement_of shape s)

unfoldable pub inverted_leaves : ℕ → List ℕ → ℕ
inverted_leaves shape s = leaves shape inverted (refinement_of shape s)

-- the tree's leaf count
unfoldable pub tree_leaves : ℕ → List ℕ → ℕ
tree_leaves shape s = upright_leaves shape s + inverted_leaves shape s

unfoldable pub count_refusal : ℕ → List ℕ → ℕ
count_refusal shape s = first_failed (check (refinable shape) 24 ∷ check (string_ok shape s) 23 ∷ check (leb (tree_leaves shape s) max_leaves) 25 ∷ [])

-- the refusal alone
abbrev pub leaves_refused : ℕ → Leaves
leaves_refused refusal = record { refusal = refusal; upright = 0; inverted = 0; leaves = 0 }

unfoldable pub leaves_answer : ℕ → ℕ → ℕ → Leaves
leaves_answer refusal u i = cond (eqb refusal 0) (record { refusal = 0; upright = u; inverted = i; leaves = u + i }) (leaves_refused refusal)

unfoldable pub count_leaves : ℕ → List ℕ → Leaves
count_leaves shape s = leaves_answer (count_refusal shape s) (upright_leaves shape s) (inverted_leaves shape s)
