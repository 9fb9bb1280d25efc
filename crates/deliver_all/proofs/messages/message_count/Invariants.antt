use Rattle.deliver_all.specs.Messages.{messages_in}
use lib.ListN.{length, drop}
use mathlib.Core.Path.{◌≡◌}
use Prim.Native.Nat.{◌+◌, ◌-◌, ◌≤◌}
use Rattle.deliver_all.proofs.messages.message_count.Given as goal

abbrev pub invariant-loop-at : goal.invariant-loop-at
invariant-loop-at l = (l.at ≤ length l.messages) × ((l.count ≤ l.at) × (l.count + length (messages_in (drop l.at l.messages)) ≡ length (messages_in l.messages)))

abbrev pub decreases-loop-at : goal.decreases-loop-at
decreases-loop-at l = length l.messages - l.at
