use native.Mathlib.Omega.{arith}
use Rattle.mesh.proofs.Checking.{run_stays, run_next, run_ends}
use Rattle.linked.proofs.plain.plain_run.Goals as goal

pub loop-next-init : goal.loop-next-init
loop-next-init c = run_stays _ _ _ _ _ c.requires.1 c.requires.2 c.requires.3

pub plain_tree-requires : goal.plain_tree-requires
plain_tree-requires c = (c.requires.0, c.loop-next-test.true)

pub returns-in_default : goal.returns-in_default
returns-in_default c = c.loop-next.invariant

pub overflow_add-ups : goal.overflow_add-ups
overflow_add-ups c = omega (arith, c.loop-next.invariant.few.0, c.loop-next.invariant.within, c.in-Some.ensures.1.few.0, c.requires.0.most)

pub overflow_add-downs : goal.overflow_add-downs
overflow_add-downs c = omega (arith, c.loop-next.invariant.few.1, c.loop-next.invariant.within, c.in-Some.ensures.1.few.1, c.requires.0.most)

pub loop-next-preserved : goal.loop-next-preserved
loop-next-preserved c = run_next _ _ _ _ _ c.loop-next.invariant c.in-Some.ensures c.loop-next-test.true

pub returns : goal.returns
returns c = run_ends _ _ _ _ _ (omega arith) c.loop-next.invariant
