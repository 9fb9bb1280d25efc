use Rattle.message.specs.Layout.{records_laid}
use Rattle.encoding.proofs.Below.{all_more, all_fails, all_to}
use Rattle.encoding.specs.Below.{all_below}
use native.Mathlib.Omega.{arith}
use mathlib.Core.Path.{sym, ◌∙◌}
use borrow.Author.Rules.{rules}
use Rattle.message.proofs.layout.records_laid.Goals as goal

pub loop-i-init : goal.loop-i-init
unfolding all_below
loop-i-init c = search rules

pub returns-then-not-record_next : goal.returns-then-not-record_next
unfolding records_laid
returns-then-not-record_next c = sym (all_fails _ _ _ c.loop-i-test.true (sym c.record_next.ensures ∙ c.if-not-record_next.true))

pub loop-i-preserved : goal.loop-i-preserved
loop-i-preserved c = all_more _ _ c.loop-i.invariant (sym c.record_next.ensures ∙ c.if-not-record_next.false)

pub returns : goal.returns
unfolding records_laid
returns c = sym (all_to _ _ _ c.loop-i.auto.i-end (omega arith) c.loop-i.invariant)
