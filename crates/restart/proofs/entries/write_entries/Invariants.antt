use Rattle.restart.proofs.Writing.{Padding}
use Rattle.restart.proofs.entries.write_entries.Given as goal

abbrev pub invariant-loop-p : goal.invariant-loop-p
invariant-loop-p l = Padding l.table l.initial.out l.p l.out
