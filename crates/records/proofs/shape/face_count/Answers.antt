use Rattle.records.proofs.Shapes.{count_five, count_none}
use Rattle.records.specs.Shape.{face_count}
use lib.Dec.{lit≤}
use mathlib.Core.Path.{sym}
use native.Mathlib.Omega.{arith}
use Rattle.records.proofs.shape.face_count.Goals as goal

pub returns-in-0 : goal.returns-in-0
unfolding face_count
returns-in-0 c = (rw c.in-0.is, lit≤ tt)

pub returns-in-1 : goal.returns-in-1
unfolding face_count
returns-in-1 c = (rw c.in-1.is, lit≤ tt)

pub returns-in-2 : goal.returns-in-2
unfolding face_count
returns-in-2 c = (rw c.in-2.is, lit≤ tt)

pub returns-in-3 : goal.returns-in-3
unfolding face_count
returns-in-3 c = (rw c.in-3.is, lit≤ tt)

pub returns-in-4 : goal.returns-in-4
returns-in-4 c = (count_five _ (omega arith) (omega arith), lit≤ tt)

pub returns-in_default : goal.returns-in_default
returns-in_default c = (sym (count_none _ (omega arith)), lit≤ tt)
