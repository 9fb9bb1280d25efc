use lib.ListN.{length}
use Prim.Native.Nat.{◌-◌}
use Rattle.ele_text.proofs.Storing.{Gone}
use Rattle.ele_text.proofs.file.read.Given as goal

abbrev pub invariant-loop-f : goal.invariant-loop-f
invariant-loop-f l = Gone l.text l.initial.vertices l.vertices l.f l.at

abbrev pub decreases-loop-f : goal.decreases-loop-f
decreases-loop-f l = length l.text - l.at
