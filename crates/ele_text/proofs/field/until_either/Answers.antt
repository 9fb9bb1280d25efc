use native.Mathlib.Omega.{arith}
use Rattle.ele_text.specs.Text.{is_either}
use Rattle.ele_text.proofs.Splits.{until_none, until_here, until_on, until_end}
use Rattle.ele_text.proofs.field.until_either.Goals as goal

pub loop-i-init : goal.loop-i-init
loop-i-init c = until_none _ _ _

pub returns-then-b-x : goal.returns-then-b-x
unfolding is_either
returns-then-b-x c = (until_here _ _ _ _ c.loop-i.invariant c.loop-i-test.true c.if-b-x.true, omega arith)

pub loop-i-preserved : goal.loop-i-preserved
unfolding is_either
loop-i-preserved c = until_on _ _ _ _ c.loop-i.invariant c.loop-i-test.true c.if-b-x.false

pub returns : goal.returns
returns c = (until_end _ _ _ _ c.loop-i.invariant c.loop-i-test.false, omega arith)
