use Rattle.ele_mesh.proofs.Chains.{paired, paired_none, paired_more, paired_not}
use Rattle.encoding.proofs.Below.{all_to}
use mathlib.Core.Path.{sym}
use Rattle.ele_mesh.proofs.chain.Chains.edges_ok.Goals as goal

pub loop-f-init : goal.loop-f-init
loop-f-init c = paired_none _

pub earlier-requires : goal.earlier-requires
earlier-requires c = (c.requires, c.loop-f-test.true)

pub returns-then-earlier-gt1 : goal.returns-then-earlier-gt1
returns-then-earlier-gt1 c = paired_not _ _ c.earlier.ensures c.loop-f-test.true c.if-earlier-gt1.true

pub loop-f-preserved : goal.loop-f-preserved
loop-f-preserved c = paired_more _ _ c.earlier.ensures c.loop-f.invariant c.if-earlier-gt1.false

pub returns : goal.returns
returns c = sym (all_to _ (paired c.args.self.vs.now) _ c.loop-f.auto.f-end c.loop-f-test.false c.loop-f.invariant)
