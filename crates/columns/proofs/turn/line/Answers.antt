use native.Mathlib.Omega.{arith}
use Rattle.columns.proofs.Moving.{line_start, line_more, line_long, line_done}
use Rattle.columns.proofs.turn.line.Goals as goal

pub loop-i-init : goal.loop-i-init
loop-i-init c = line_start _ _ _ _ _ _

pub overflow_mul-dst : goal.overflow_mul-dst
overflow_mul-dst c = omega (arith, c.requires.0.at _ c.loop-i-test.true)

pub overflow_add-dst : goal.overflow_add-dst
overflow_add-dst c = omega (arith, c.requires.0.at _ c.loop-i-test.true)

pub bounds-src-from : goal.bounds-src-from
bounds-src-from c = c.requires.0.at _ c.loop-i-test.true

pub overflow_mul-dst-in-loop-i : goal.overflow_mul-dst-in-loop-i
overflow_mul-dst-in-loop-i c = omega (arith, c.requires.1.at _ c.loop-i-test.true)

pub overflow_add-dst-in-loop-i : goal.overflow_add-dst-in-loop-i
overflow_add-dst-in-loop-i c = omega (arith, c.requires.1.at _ c.loop-i-test.true)

pub bounds-dst-to : goal.bounds-dst-to
bounds-dst-to c = omega (arith, c.requires.1.at _ c.loop-i-test.true, line_long _ _ _ _ _ _ _ c.loop-i.invariant)

pub loop-i-preserved : goal.loop-i-preserved
loop-i-preserved c = line_more _ _ _ _ _ _ _ c.loop-i.invariant

pub returns : goal.returns
returns c = line_done _ _ _ _ _ _ _ _ c.loop-i.auto.i-end (omega arith) c.loop-i.invariant
