use Rattle.plan_read.proofs.input.read_list.Answers.Turns.{Reading}
use lib.ListN.{length}
use Prim.Native.Nat.{◌-◌}
use Rattle.plan_read.proofs.input.read_list.Given as goal

abbrev pub invariant-loop-v : goal.invariant-loop-v
invariant-loop-v l = Reading l.text l.at l.initial.table l.count l.place l.table

abbrev pub decreases-loop-v : goal.decreases-loop-v
decreases-loop-v l = length l.text - l.place
