use Rattle.columns_read.specs.MeansFiles.{tree_of, side_of}
use Rattle.columns_read.specs.Means.{tree_side_up, tree_side_down}
use Rattle.encoding.specs.Below.{all_below, count_below}
use mathlib.Core.Bool.{true}
use mathlib.Core.Path.{◌≡◌}
use Prim.Native.Nat.{◌*◌, ◌≤◌, ◌-◌}
use Rattle.columns_check.proofs.sound.tree_sides.Given as goal

abbrev pub invariant-loop-i : goal.invariant-loop-i
invariant-loop-i l =
    (l.i ≤ l.count) × (all_below l.i (side_of l.columns l.face) ≡ true)
    × ((l.ups ≡ count_below l.i (tree_side_up l.count (tree_of l.columns) l.face)) × (l.ups ≤ 6 * l.i))
    × ((l.downs ≡ count_below l.i (tree_side_down l.count (tree_of l.columns) l.face)) × (l.downs ≤ 6 * l.i))

abbrev pub decreases-loop-i : goal.decreases-loop-i
decreases-loop-i l = l.count - l.i
