use Prim.Native.Nat.{◌≤◌}
use mathlib.Core.Path.{◌≡◌}
use mathlib.Core.Bool.{true}
use Rattle.encoding.specs.Below.{all_below, count_below}
use Rattle.mesh.specs.Mesh.{mesh_core}
use Rattle.mesh.specs.Means.{packed, leads_up, leads_down, leads_inside, listed_link}
use Rattle.mesh.proofs.sound.sorted.Given as goal

abbrev pub invariant-loop-face : goal.invariant-loop-face
invariant-loop-face l =
    (all_below l.face (leads_inside (mesh_core l.mesh) l.trees l.k) ≡ true)
    × ((l.ups ≡ count_below l.face (leads_up (mesh_core l.mesh) l.k)) × (l.ups ≤ l.face))
    × ((l.downs ≡ count_below l.face (leads_down (mesh_core l.mesh) l.k)) × (l.downs ≤ l.face))
    × (l.list ≡ packed l.face (listed_link (mesh_core l.mesh) l.k))
