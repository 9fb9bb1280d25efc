use Rattle.deliver_all.proofs.Delivering.{Turn}
use lib.ListN.{length}
use mathlib.Core.Path.{◌≡◌}
use Prim.Native.Nat.{◌-◌}
use Rattle.deliver_all.proofs.messages.deliver_each.Given as goal

abbrev pub invariant-loop-at : goal.invariant-loop-at
invariant-loop-at l = (length l.area ≡ length l.initial.area) × Turn l.initial.area l.messages l.initial.answers l.at l.i l.area l.answers

abbrev pub decreases-loop-at : goal.decreases-loop-at
decreases-loop-at l = length l.messages - l.at
