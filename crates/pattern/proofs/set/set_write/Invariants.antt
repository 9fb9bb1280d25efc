use Rattle.pattern.proofs.Windows.{Listing}
use Rattle.pattern.specs.Means.{exchanges_tree}
use Rattle.pattern.proofs.set.set_write.Given as goal

abbrev pub invariant-loop-other : goal.invariant-loop-other
invariant-loop-other l = Listing (exchanges_tree l.old l.new l.rank l.sending) l.end l.initial.out l.out l.count l.other
