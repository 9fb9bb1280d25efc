-- The measure is the depth that remains. The loop over the children keeps what is left of the row: walking it from here gives what walking all of it gave at first.
use mathlib.Core.List.{map}
use mathlib.Core.Path.{◌≡◌}
use lib.ListN.{drop}
use Rattle.refinement.specs.Means.Walks.{Cursor, walk_of, walk_row, going, kind_of, Passing}
use Rattle.refinement.specs.Refinement.{Kind}
use Rattle.refinement.proofs.walk.+past_triangle.Given as goal

abbrev pub decreases-past_triangle : goal.decreases-past_triangle
decreases-past_triangle l = l.depth

abbrev pub invariant-loop-child : goal.invariant-loop-child
invariant-loop-child l =
    let step : Kind → Cursor → Cursor = λ j v. walk_of 1 l.d j l.s v in
    (walk_row step (map kind_of (drop l.child-index l.child-items)) (going l.w) ≡ walk_row step (map kind_of l.child-items) (going l.initial.w)) × Passing l.s (going l.w)
