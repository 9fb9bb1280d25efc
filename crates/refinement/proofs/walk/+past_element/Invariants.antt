-- The measure is the depth that remains. The loop over the children keeps what is left of the row: walking it from here gives what walking all of it gave at first.
use Prim.Native.Nat.{◌-◌}
use mathlib.Core.Path.{◌≡◌}
use Rattle.refinement.specs.Means.Walks.{going, siblings, Passing}
use Rattle.refinement.proofs.walk.+past_element.Given as goal

abbrev pub decreases-past_element : goal.decreases-past_element
decreases-past_element l = l.depth

abbrev pub invariant-loop : goal.invariant-loop
invariant-loop l =
    (siblings l.shape l.d l.s (l.end - l.counter) (going l.w) ≡ siblings l.shape l.d l.s l.end (going l.initial.w)) × Passing l.s (going l.w)
