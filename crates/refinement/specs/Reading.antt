-- Reading a string: which refinement it writes, if any.
use Rattle.std.specs.Prelude.{ℕ, zero, suc, Bool, true, false, List, [], ◌∷◌}
use Rattle.refinement.specs.Refinement.{Row, end, leaf, refined, children, max_depth}

-- no row, or a row and the bytes that are left behind it
pub data Reading : Type 0 where
  stopped : Reading
  found : Row → List ℕ → Reading

abbrev pub after_leaf : Reading → Reading
after_leaf stopped = stopped
after_leaf (found r s) = found (leaf r) s

abbrev pub after_children : Row → Reading → Reading
after_children c stopped = stopped
after_children c (found r s) = found (refined c r) s

-- the children of a refined element, then the elements after it
abbrev pub after_refined : Reading → (List ℕ → Reading) → Reading
after_refined stopped after = stopped
after_refined (found c s) after = after_children c (after s)

-- m elements: `inner` reads the children of a refined one
unfoldable pub read_row : (List ℕ → Reading) → ℕ → List ℕ → Reading
read_row inner zero s = found end s
read_row inner (suc m) [] = stopped
read_row inner (suc m) (zero ∷ s) = after_leaf (read_row inner m s)
read_row inner (suc m) (suc zero ∷ s) = after_refined (inner s) (λ t. read_row inner m t)
read_row inner (suc m) (suc (suc b) ∷ s) = stopped

-- the n children of an element that may be refined so deep
unfoldable pub read_children : ℕ → ℕ → List ℕ → Reading
read_children n zero s = stopped
read_children n (suc depth) s = read_row (read_children n depth) n s

unfoldable pub read_tree : ℕ → List ℕ → Reading
read_tree shape s = read_row (read_children (children shape) max_depth) 1 s

-- the string is read to its end
unfoldable pub whole : Reading → Bool
whole stopped = false
whole (found r []) = true
whole (found r (b ∷ s)) = false

unfoldable pub row_read : Reading → Row
row_read stopped = end
row_read (found r s) = r

-- each byte is 0 or 1, no byte is missing or left, and nothing is deeper than it may be
unfoldable pub string_ok : ℕ → List ℕ → Bool
string_ok shape s = whole (read_tree shape s)

-- the refinement that an accepted string writes
unfoldable pub refinement_of : ℕ → List ℕ → Row
refinement_of shape s = row_read (read_tree shape s)
