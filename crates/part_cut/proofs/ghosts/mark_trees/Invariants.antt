use Rattle.part_cut.specs.Means.{out_trees}
use Rattle.positions.specs.Means.{Added}
use Rattle.mesh.specs.Mesh.{mesh_core}
use Prim.Native.Nat.{◌-◌}
use Rattle.part_cut.proofs.ghosts.mark_trees.Given as goal

abbrev pub invariant-loop-k : goal.invariant-loop-k
invariant-loop-k l = Added l.initial.marks (out_trees (mesh_core l.mesh) l.first l.end (l.k - l.first)) l.marks
