use Rattle.pattern.proofs.Laws.{Walking}
use Rattle.pattern.proofs.holder.sender.Given as goal

abbrev pub invariant-loop-d : goal.invariant-loop-d
invariant-loop-d l = Walking l.old l.k l.q l.d
