use Rattle.plan_write.proofs.Writing.{decimal_one, length_more}
use Rattle.plan_read.proofs.Decimals.{decimal_least, decimal_most}
use lib.ListN.{length}
use native.Mathlib.Omega.{arith}
use mathlib.Core.Path.{ap}
use Rattle.plan_write.proofs.put.decimal_length.Goals as goal

pub loop-m-init : goal.loop-m-init
loop-m-init c = (omega arith, omega arith)

pub overflow_add-count : goal.overflow_add-count
overflow_add-count c = omega (arith, decimal_most c.args.n, decimal_least c.loop-m.m)

pub loop-m-preserved : goal.loop-m-preserved
loop-m-preserved c = (omega arith, length_more _ _ _ (omega arith) c.loop-m-test.true c.loop-m.invariant.1)

pub returns : goal.returns
returns c = let e = ap length (decimal_one c.loop-m.m c.loop-m-test.false) in (omega arith, omega (arith, decimal_most c.args.n))
