use mathlib.Core.Path.{◌≡◌}
use mathlib.Core.Bool.{true}
use Rattle.mesh.specs.Mesh.{mesh_core}
use Rattle.faults.proofs.Searches.{kind_at}
use Rattle.faults.proofs.Firsts.{quiet}
use Rattle.faults.proofs.tree.first_wrong.Given as goal

abbrev pub invariant-loop-k : goal.invariant-loop-k
invariant-loop-k l = quiet (kind_at (mesh_core l.mesh) l.dimension l.trees) l.k ≡ true
