use lib.ListN.{length}
use Prim.Native.Nat.{◌-◌, ◌*◌}
use Rattle.message_ghosts.proofs.Walking.{Walk}
use Rattle.message_ghosts.proofs.marks.mark_near.Given as goal

abbrev pub invariant-loop-j : goal.invariant-loop-j
invariant-loop-j l = Walk l.sending.part.now l.sending.old.now l.sending.new.now l.sending.sender l.sending.receiver l.sending.first l.count l.near l.initial.marks l.j l.marks

abbrev pub decreases-loop-j : goal.decreases-loop-j
decreases-loop-j l = 64 * length l.near - l.j
