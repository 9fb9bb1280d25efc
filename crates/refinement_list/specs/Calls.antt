-- What the call answers for a list of trees, their strings end to end, refusals included, and what it leaves in the lent list.
use Rattle.std.specs.Prelude.{ℕ, zero, suc, Bool, ◌&&◌, List, [], ◌∷◌, ◌++◌, leb, eqb, length, get_or}
use Rattle.encoding.specs.Answer.{written, count_answer}
use Rattle.encoding.specs.Below.{all_below, sum_below}
use Rattle.encoding.specs.Pieces.{piece}
use Rattle.encoding.specs.Refusal.{check, first_failed}
use Rattle.encoding.specs.declared.answer.Count.{Count}
use Rattle.leaf_shares.specs.Leaves.{max_leaves}
use Rattle.offsets.specs.Limits.{tree_count_ok}
use Rattle.refinement.specs.Refinement.{refinable}
use Rattle.refinement.specs.Reading.{string_ok}
use Rattle.refinement.specs.Calls.{tree_leaves}

-- the numbers g 0 to g (n - 1)
unfoldable pub list_below : ℕ → (ℕ → ℕ) → List ℕ
list_below zero g = []
list_below (suc n) g = list_below n g ++ (g n ∷ [])

-- where the string of tree k begins
unfoldable pub string_start : List ℕ → ℕ → ℕ
string_start lengths k = sum_below k (λ i. get_or lengths i 0)

unfoldable pub string_of : List ℕ → List ℕ → ℕ → List ℕ
string_of lengths bits k = piece bits (string_start lengths k) (get_or lengths k 0)

-- as many lengths as shapes, and a number of trees within its limits
unfoldable pub trees_ok : List ℕ → List ℕ → Bool
trees_ok shapes lengths = eqb (length lengths) (length shapes) && tree_count_ok (length shapes)

unfoldable pub shapes_ok : List ℕ → Bool
shapes_ok shapes = all_below (length shapes) (λ k. refinable (get_or shapes k 0))

-- the strings cover the bytes exactly, and each is in order
unfoldable pub strings_ok : List ℕ → List ℕ → List ℕ → Bool
strings_ok shapes lengths bits =
    eqb (string_start lengths (length shapes)) (length bits) && all_below (length shapes) (λ k. string_ok (get_or shapes k 0) (string_of lengths bits k))

-- the leaf count of tree k
unfoldable pub count_of : List ℕ → List ℕ → List ℕ → ℕ → ℕ
count_of shapes lengths bits k = tree_leaves (get_or shapes k 0) (string_of lengths bits k)

unfoldable pub counts_fit : List ℕ → List ℕ → List ℕ → Bool
counts_fit shapes lengths bits = all_below (length shapes) (λ k. leb (count_of shapes lengths bits k) max_leaves)

-- one count for each tree
unfoldable pub count_list : List ℕ → List ℕ → List ℕ → List ℕ
count_list shapes lengths bits = list_below (length shapes) (count_of shapes lengths bits)

unfoldable pub counts_refusal : List ℕ → List ℕ → List ℕ → List ℕ → ℕ
counts_refusal shapes lengths bits out =
    first_failed
    (check (trees_ok shapes lengths) 6
    ∷ check (shapes_ok shapes) 24
    ∷ check (strings_ok shapes lengths bits) 23
    ∷ check (counts_fit shapes lengths bits) 25
    ∷ check (leb (length shapes) (length out)) 22
    ∷ [])

unfoldable pub leaf_counts : List ℕ → List ℕ → List ℕ → List ℕ → Count × List ℕ
leaf_counts shapes lengths bits out =
    (count_answer (counts_refusal shapes lengths bits out) (length shapes), written (counts_refusal shapes lengths bits out) (count_list shapes lengths bits) out)
