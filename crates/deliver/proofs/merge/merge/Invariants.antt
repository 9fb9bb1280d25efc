use Prim.Native.Nat.{◌+◌}
use Rattle.deliver.proofs.Merging.{Merging}
use Rattle.deliver.proofs.merge.merge.Given as goal

abbrev pub invariant-loop-j : goal.invariant-loop-j
invariant-loop-j l = Merging l.initial.area l.at l.held l.message l.from l.came l.i l.j l.area

abbrev pub decreases-loop-j : goal.decreases-loop-j
decreases-loop-j l = l.i + l.j
