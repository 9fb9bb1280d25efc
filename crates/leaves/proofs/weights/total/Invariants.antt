use Rattle.leaves.specs.Weighted.{weight_before}
use mathlib.Core.Path.{◌≡◌}
use Prim.Native.Nat.{◌≤◌, ◌*◌, ◌^◌}
use Rattle.leaves.proofs.weights.total.Given as goal

abbrev pub invariant-loop-x : goal.invariant-loop-x
invariant-loop-x l = (l.w ≡ weight_before l.weights l.x-index) × (l.w ≤ l.x-index * 2 ^ 32)
