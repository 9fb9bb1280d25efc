use Rattle.mesh.proofs.Packing.{Left}
use Rattle.linked.specs.Means.{tree_listed, tree_face}
use Rattle.linked.proofs.trees.listed_ok.Given as goal

abbrev pub invariant-loop-left : goal.invariant-loop-left
invariant-loop-left l = Left (tree_listed l.bs l.x l.tree.0) (tree_face l.bs l.x l.tree.0) l.faces l.left

abbrev pub decreases-loop-left : goal.decreases-loop-left
decreases-loop-left l = l.left
