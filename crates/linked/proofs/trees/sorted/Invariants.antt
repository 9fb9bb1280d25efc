use Prim.Native.Nat.{◌≤◌}
use mathlib.Core.Path.{◌≡◌}
use Rattle.encoding.specs.Below.{count_below}
use Rattle.mesh.specs.Means.{packed}
use Rattle.linked.specs.Means.{tree_listed, tree_up, tree_down}
use Rattle.linked.proofs.trees.sorted.Given as goal

abbrev pub invariant-loop-face : goal.invariant-loop-face
invariant-loop-face l = (l.list ≡ packed l.face (tree_listed l.bs l.x l.tree.0))
    × ((l.ups ≡ count_below l.face (tree_up l.bs l.x l.tree.0)) × (l.ups ≤ l.face))
    × ((l.downs ≡ count_below l.face (tree_down l.bs l.x l.tree.0)) × (l.downs ≤ l.face))
