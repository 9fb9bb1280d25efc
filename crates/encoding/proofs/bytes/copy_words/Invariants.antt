use Rattle.encoding.proofs.Copying.{Copied}
use Rattle.encoding.proofs.bytes.copy_words.Given as goal

abbrev pub invariant-loop-i : goal.invariant-loop-i
invariant-loop-i l = Copied l.src l.initial.dst l.i l.dst
