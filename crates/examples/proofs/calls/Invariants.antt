use Rattle.std.proofs.Common.{length, ◌≤◌}
use Rattle.examples.proofs.calls.Given as goal

abbrev pub invariant-loop-k : goal.invariant-loop-k
invariant-loop-k g l = l.room ≤ length l.out
