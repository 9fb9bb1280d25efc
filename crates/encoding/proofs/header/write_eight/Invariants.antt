use Rattle.encoding.proofs.Headers.{Begun}
use Rattle.encoding.proofs.header.write_eight.Given as goal

abbrev pub invariant-loop-i : goal.invariant-loop-i
invariant-loop-i l = Begun l.initial.out l.numbers l.i l.out
