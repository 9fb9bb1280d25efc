use Rattle.columns_check.specs.MeansFiles.{low_of, up_of, down_of, listed_of}
use Rattle.columns_check.specs.Means.{from}
use Rattle.mesh.specs.Means.{packed}
use Rattle.encoding.specs.Below.{all_below, count_below}
use mathlib.Core.Bool.{true}
use mathlib.Core.Path.{◌≡◌}
use Prim.Native.Nat.{◌≤◌}
use Rattle.columns_check.proofs.sound.sorted.Given as goal

abbrev pub invariant-loop-m : goal.invariant-loop-m
invariant-loop-m l =
    (all_below l.m (from (low_of l.indexed.columns l.face) l.start) ≡ true)
    × ((l.ups ≡ count_below l.m (from (up_of l.indexed.columns l.face) l.start)) × (l.ups ≤ l.m))
    × ((l.downs ≡ count_below l.m (from (down_of l.indexed.columns l.face) l.start)) × (l.downs ≤ l.m))
    × (l.list ≡ packed l.m (from (listed_of l.indexed.columns l.face) l.start))
