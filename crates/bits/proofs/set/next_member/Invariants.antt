use Prim.Native.Nat.{◌*◌, ◌≤◌}
use Rattle.bits.proofs.Scanning.{None}
use Rattle.bits.proofs.set.next_member.Given as goal

abbrev pub invariant-loop-i : goal.invariant-loop-i
invariant-loop-i l = (l.k ≤ 64 * l.i) × None l.ws l.k (64 * l.i)
