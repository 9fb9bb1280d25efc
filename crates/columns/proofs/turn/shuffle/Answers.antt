use lib.ListN.{length-set}
use native.Mathlib.Omega.{arith}
use Rattle.columns.proofs.Squares.{shuffled_start, shuffled_more, shuffled_done}
use Rattle.columns.proofs.turn.shuffle.Goals as goal

pub loop-i-init : goal.loop-i-init
loop-i-init c = shuffled_start _ _

pub bounds-y-i-in-loop-i : goal.bounds-y-i-in-loop-i
bounds-y-i-in-loop-i c = simp length-set (omega arith)

pub loop-i-preserved : goal.loop-i-preserved
loop-i-preserved c =
    let loop-test = c.loop-i-test in
    let inv = c.loop-i.invariant in
    shuffled_more _ _ _ loop-test.true (omega arith) inv

pub returns : goal.returns
returns c = shuffled_done _ _ _ c.loop-i.auto.i-end (omega arith) c.loop-i.invariant
