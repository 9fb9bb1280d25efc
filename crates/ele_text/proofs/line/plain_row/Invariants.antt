use lib.ListN.{length}
use Prim.Native.Nat.{◌-◌}
use Rattle.ele_text.proofs.Rows.{Walked}
use Rattle.ele_text.proofs.line.plain_row.Given as goal

abbrev pub invariant-loop-r : goal.invariant-loop-r
invariant-loop-r l = Walked l.s l.r l.at

abbrev pub decreases-loop-r : goal.decreases-loop-r
decreases-loop-r l = length l.s - l.at
