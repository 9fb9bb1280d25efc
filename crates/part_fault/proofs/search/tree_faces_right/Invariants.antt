use mathlib.Core.Path.{◌≡◌}
use mathlib.Core.Bool.{true}
use Rattle.encoding.specs.Below.{all_below}
use Rattle.part.specs.Part.{stored_tree}
use Rattle.part_check.specs.Means.{tree_face}
use Rattle.part.specs.Means.{ghost_core}
use Rattle.mesh.specs.Means.{link_by_dimension}
use Rattle.part_fault.proofs.search.tree_faces_right.Given as goal

abbrev pub invariant-loop-face : goal.invariant-loop-face
invariant-loop-face l = all_below l.face (tree_face (link_by_dimension l.e.dimension) l.e.count l.e.ghosts (stored_tree l.part) (ghost_core l.part l.e.count) l.i) ≡ true
