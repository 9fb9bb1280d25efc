-- What may be wrong with a table, entry by entry. Kinds 1 to 5.
use Rattle.std.specs.Prelude.{ℕ, not, ◌&&◌, ◌||◌, List, [], ◌∷◌, leb, ltb, eqb}
use Rattle.encoding.specs.Refusal.{check, first_failed}
use Rattle.offsets.specs.Limits.{tree_count_ok}
use Rattle.offsets.specs.Table.{ranks, entry, trees, negative, magnitude, first_tree, end_tree}
use Rattle.faults.specs.Answer.{Wrong, wrong}

-- the kind of entry p, 0 where nothing is wrong there
--   1  the first entry isn't 0
--   2  K, the last entry, is outside its limits
--   3  the entry is above K or below −K
--   4  the count of rank p is negative
--   5  rank p is empty, and its entry is negative
unfoldable pub entry_kind : List ℕ → ℕ → ℕ
entry_kind t p =
    first_failed
    (check (not (eqb p 0) || eqb (entry t p) 0) 1
    ∷ check (not (eqb p (ranks t)) || tree_count_ok (trees t)) 2
    ∷ check (leb (magnitude (entry t p)) (trees t)) 3
    ∷ check (not (ltb p (ranks t)) || leb (first_tree t p) (end_tree t p)) 4
    ∷ check (not (ltb p (ranks t) && negative (entry t p)) || ltb (first_tree t p) (end_tree t p)) 5
    ∷ [])

-- an entry has no faces
abbrev pub entry_wrong : List ℕ → ℕ → Wrong
entry_wrong t p = wrong (entry_kind t p) 0
