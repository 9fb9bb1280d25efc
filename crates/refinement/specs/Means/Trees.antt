-- Means, no part of what is promised: the result for one tree.
use Rattle.std.specs.Prelude.{ℕ, Bool, cond, ◌&&◌, List, eqb}
use Rattle.std.specs.Prelude.{None, Some}
use Rattle.std.specs.declared.option.Option.{Option}
use Rattle.refinement.specs.declared.walk.TreeLeaves.{TreeLeaves}
use Rattle.refinement.specs.Reading.{string_ok}
use Rattle.refinement.specs.Calls.{upright_leaves, inverted_leaves}

-- where a walk has come to, if to the string's end
unfoldable pub tree_at : ℕ → Bool → ℕ → ℕ → ℕ → Option TreeLeaves
tree_at n ok at u i = cond (ok && eqb at n) (Some (record { upright = u; inverted = i })) None

-- a tree's leaves, where its string is in order
unfoldable pub tree_of : ℕ → List ℕ → Option TreeLeaves
tree_of shape s = cond (string_ok shape s) (Some (record { upright = upright_leaves shape s; inverted = inverted_leaves shape s })) None
