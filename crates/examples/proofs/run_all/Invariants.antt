use Rattle.std.proofs.Common.{◌≤◌}
use Rattle.examples.proofs.run_all.Given as goal

abbrev pub invariant-loop-here : goal.invariant-loop-here
invariant-loop-here g l = l.begin ≤ l.here
