use Rattle.ele_faces.specs.Faces.{vertex_twice}
use Rattle.encoding.specs.Below.{all_below}
use mathlib.Core.Bool.{true, not}
use mathlib.Core.Path.{◌≡◌}
use Rattle.ele_mesh.proofs.check.vertices_differ.Given as goal

abbrev pub invariant-loop-t : goal.invariant-loop-t
invariant-loop-t l = let t = l.t in all_below t (λ t. not (vertex_twice l.vs t)) ≡ true
