use mathlib.Core.Path.{refl}
use Rattle.ele_mesh.proofs.Chains.{differ_none, differ_more, differ_not, differ_all}
use Rattle.ele_mesh.proofs.check.vertices_differ.Goals as goal

pub loop-t-init : goal.loop-t-init
loop-t-init c = differ_none _

pub returns-then-a-b : goal.returns-then-a-b
returns-then-a-b c = differ_not _ _ refl refl refl c.loop-t-test.true c.if-a-b.true

pub loop-t-preserved : goal.loop-t-preserved
loop-t-preserved c = differ_more _ _ refl refl refl c.loop-t.invariant c.if-a-b.false

pub returns : goal.returns
returns c = differ_all _ _ c.loop-t.auto.t-end c.loop-t-test.false c.loop-t.invariant
