use Rattle.pattern.proofs.Laws.{Looking}
use Rattle.pattern.proofs.range.upper_rank.Given as goal

abbrev pub invariant-loop-n : goal.invariant-loop-n
invariant-loop-n l = Looking l.t l.p l.n
