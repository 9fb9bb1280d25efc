-- Means, no part of what is promised: the checks of all strings of a list.
use Rattle.std.specs.Prelude.{ℕ, ◌≡◌, true, List, [], ◌∷◌, length}
use Rattle.encoding.specs.Refusal.{check, first_failed}
use Rattle.refinement_list.specs.Calls.{strings_ok, counts_fit}

-- all strings are in order, and then no tree has too many leaves
unfoldable pub strings_refusal : List ℕ → List ℕ → List ℕ → ℕ
strings_refusal shapes lengths bits = first_failed (check (strings_ok shapes lengths bits) 23 ∷ check (counts_fit shapes lengths bits) 25 ∷ [])

-- as many lengths as shapes, and strings and counts in order
pub record Walkable (shapes lengths bits : List ℕ) : Type 0 where
  pub same_length : length lengths ≡ length shapes
  pub strings : strings_ok shapes lengths bits ≡ true
  pub counts : counts_fit shapes lengths bits ≡ true
