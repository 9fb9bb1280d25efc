use Rattle.part_check.specs.Means.{tree_fits}
use Rattle.part.specs.Means.{ghost_core}
use Rattle.part.specs.Part.{stored_tree}
use Rattle.mesh.specs.Means.{link_by_dimension}
use Rattle.encoding.specs.Below.{all_below}
use mathlib.Core.Bool.{true}
use mathlib.Core.Path.{◌≡◌}
use Rattle.part_fault.proofs.search.plain_tree.Given as goal

abbrev pub invariant-loop-face : goal.invariant-loop-face
invariant-loop-face l = all_below l.face (tree_fits (link_by_dimension 3) l.count l.ghosts (stored_tree l.part) (ghost_core l.part l.count) l.tree.0) ≡ true
