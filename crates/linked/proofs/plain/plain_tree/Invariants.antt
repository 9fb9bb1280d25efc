use Rattle.mesh.specs.Means.{FacesAs}
use Rattle.linked.specs.Means.{tree_face, tree_up, tree_down}
use Rattle.linked.proofs.plain.plain_tree.Given as goal

abbrev pub invariant-loop-face : goal.invariant-loop-face
invariant-loop-face l = FacesAs (tree_face l.bs l.x l.i) (tree_up l.bs l.x l.i) (tree_down l.bs l.x l.i) l.face l.ups l.downs
