use Rattle.columns_check.specs.MeansFiles.{ghost_side_of, up_of, down_of}
use Rattle.encoding.specs.Below.{all_below, count_below}
use mathlib.Core.Bool.{true}
use mathlib.Core.Path.{◌≡◌}
use Prim.Native.Nat.{◌*◌, ◌≤◌}
use Rattle.columns_check.proofs.sound.ghost_sides.Given as goal

abbrev pub invariant-loop-j : goal.invariant-loop-j
invariant-loop-j l =
    (l.j ≤ l.ghosts) × (all_below l.j (ghost_side_of l.indexed.columns l.face) ≡ true)
    × ((l.ups ≡ count_below l.j (up_of l.indexed.columns l.face)) × (l.ups ≤ 6 * l.j))
    × ((l.downs ≡ count_below l.j (down_of l.indexed.columns l.face)) × (l.downs ≤ 6 * l.j))
