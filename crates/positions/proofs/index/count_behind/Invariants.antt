use Prim.Native.Nat.{◌+◌, ◌*◌}
use mathlib.Core.Path.{◌≡◌}
use Rattle.encoding.specs.Below.{count_below}
use Rattle.bits.specs.Bits.{in_set}
use Rattle.positions.specs.Means.{Counted}
use Rattle.positions.proofs.index.count_behind.Given as goal

abbrev pub invariant-loop-i : goal.invariant-loop-i
invariant-loop-i l = (l.total + count_below (64 * l.i) (in_set l.marks) ≡ count_below (64 * l.words) (in_set l.marks)) × Counted l.marks l.words l.initial.behind l.i l.behind
