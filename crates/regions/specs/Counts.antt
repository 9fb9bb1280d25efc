-- How many local trees of a part each region has.
use Rattle.std.specs.Prelude.{ℕ, zero, suc, List, [], ◌∷◌, ◌++◌, eqb}
use Rattle.encoding.specs.Below.{count_below}
use Rattle.records.specs.Record.{region_limit, region_of}
use Rattle.part.specs.Part.{part_count, stored_tree}

-- the values of f at the numbers below n, in their order
unfoldable pub values_below : ℕ → (ℕ → ℕ) → List ℕ
values_below zero f = []
values_below (suc n) f = values_below n f ++ (f n ∷ [])

-- how many local trees have region b
unfoldable pub region_count : List ℕ → ℕ → ℕ
region_count part b = count_below (part_count part) (λ i. eqb (region_of (stored_tree part i)) b)

-- for every region, ascending
unfoldable pub region_counts : List ℕ → List ℕ
region_counts part = values_below region_limit (region_count part)
