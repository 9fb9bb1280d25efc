-- Means, no part of what is promised: the counts while the trees are passed, and what counting them needs.
use Rattle.std.specs.Prelude.{ℕ, ◌≤◌, ◌<◌, List, eqb, length}
use Rattle.encoding.specs.Below.{count_below}
use Rattle.records.specs.Record.{region_limit, region_of}
use Rattle.part.specs.Layout.{tree_place}
use Rattle.part.specs.Part.{part_count, stored_tree}

-- no tree of any region
unfoldable pub none : ℕ → ℕ
none b = 0

-- how many of the first k trees have region b
unfoldable pub count_to : List ℕ → ℕ → ℕ → ℕ
count_to part k b = count_below k (λ i. eqb (region_of (stored_tree part i)) b)

-- the trees are there, each with a region within its limit, and the list has an entry for each region
pub record Countable (part out : List ℕ) : Type 0 where
  pub fits : tree_place (part_count part) ≤ length part
  pub regions : (i : ℕ) → i < part_count part → region_of (stored_tree part i) < region_limit
  pub room : region_limit ≤ length out
