use mathlib.Core.Path.{sym, ◌∙◌}
use native.Mathlib.Omega.{arith}
use borrow.Author.Tests.{eq-eqb, ne_eqb}
use Rattle.encoding.specs.Below.{all_below}
use Rattle.encoding.proofs.Below.{all_more, all_fails, all_to}
use Rattle.deliver_check.proofs.Checking.{numbered_is}
use borrow.Author.Rules.{rules}
use Rattle.deliver_check.proofs.check.trees_from.Goals as goal

pub loop-i-init : goal.loop-i-init
unfolding all_below
loop-i-init c = search rules

pub returns-then-number-first : goal.returns-then-number-first
returns-then-number-first c =
    let loop-test = c.loop-i-test in
    let tree-at = c.tree_at in
    let number_of_call = c.number_of-number in
    sym (all_fails _ _ _ loop-test.true (numbered_is _ _ _ tree-at.ensures number_of_call.ensures ∙ ne_eqb _ _ c.if-number-first.true))

pub loop-i-preserved : goal.loop-i-preserved
loop-i-preserved c =
    let loop = c.loop-i in
    let tree-at = c.tree_at in
    let number_of_call = c.number_of-number in
    all_more _ _ loop.invariant (numbered_is _ _ _ tree-at.ensures number_of_call.ensures ∙ eq-eqb _ _ c.if-number-first.false)

pub returns : goal.returns
returns c = sym (all_to _ _ _ c.loop-i.auto.i-end (omega arith) c.loop-i.invariant)
