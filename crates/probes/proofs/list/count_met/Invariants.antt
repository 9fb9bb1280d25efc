use Rattle.probes.proofs.Listing.{Counting}
use Rattle.probes.proofs.list.count_met.Given as goal

abbrev pub invariant-loop-i : goal.invariant-loop-i
invariant-loop-i l = Counting l.part l.probe l.met l.i
