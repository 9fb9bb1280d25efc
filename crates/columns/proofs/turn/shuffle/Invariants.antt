use Rattle.columns.specs.Means.{Shuffled}
use Rattle.columns.proofs.turn.shuffle.Given as goal

abbrev pub invariant-loop-i : goal.invariant-loop-i
invariant-loop-i l = Shuffled l.x l.y l.i
