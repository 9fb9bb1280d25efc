use Rattle.build_all.proofs.Rows.{Adding}
use Rattle.build_all.proofs.each.messages_length.Given as goal

abbrev pub invariant-loop-q : goal.invariant-loop-q
invariant-loop-q l = Adding l.from.part.now l.from.old.now l.from.new.now l.from.rank l.initial.marks l.marks l.total l.q
