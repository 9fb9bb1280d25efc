use Rattle.columns_check.specs.MeansFiles.{face_of, ups_of, downs_of}
use Rattle.encoding.specs.Below.{all_below, sum_below}
use mathlib.Core.Bool.{true}
use mathlib.Core.Path.{◌≡◌}
use Prim.Native.Nat.{◌*◌, ◌≤◌}
use Rattle.columns_check.proofs.sound.links_sound.Given as goal

abbrev pub invariant-loop-face : goal.invariant-loop-face
invariant-loop-face l =
    (all_below l.face (face_of l.indexed.columns) ≡ true)
    × ((l.ups ≡ sum_below l.face (ups_of l.indexed.columns)) × (l.ups ≤ l.face * 51539607552))
    × ((l.downs ≡ sum_below l.face (downs_of l.indexed.columns)) × (l.downs ≤ l.face * 51539607552))
