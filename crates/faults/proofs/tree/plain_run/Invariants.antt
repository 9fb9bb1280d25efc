use Rattle.mesh.specs.Means.{tree_by_dimension}
use Rattle.mesh.specs.Mesh.{mesh_core}
use Rattle.encoding.specs.Below.{all_below}
use mathlib.Core.Bool.{true}
use mathlib.Core.Path.{◌≡◌}
use Rattle.faults.proofs.tree.plain_run.Given as goal

abbrev pub invariant-loop-k : goal.invariant-loop-k
invariant-loop-k l = all_below l.k (tree_by_dimension (mesh_core l.mesh) l.dimension l.trees) ≡ true
