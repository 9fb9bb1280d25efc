use Rattle.part_fault.proofs.Found.{first_fails, none_fails}
use Rattle.encoding.proofs.Below.{all_more}
use native.Mathlib.Omega.{arith}
use mathlib.Core.Path.{sym, ◌∙◌}
use Rattle.part_fault.proofs.search.first_tree.Goals as goal

pub loop-i-init : goal.loop-i-init
loop-i-init c = c.plain_run-i.ensures.1

pub returns-then-not-tree_right : goal.returns-then-not-tree_right
returns-then-not-tree_right c =
    let loop = c.loop-i in
    let if1 = c.loop-i-test in
    let tree_right = c.tree_right in
    (if1.true, first_fails _ _ _ loop.invariant if1.true (sym tree_right.ensures ∙ c.if-not-tree_right.true))

pub loop-i-preserved : goal.loop-i-preserved
loop-i-preserved c = all_more _ _ c.loop-i.invariant (sym c.tree_right.ensures ∙ c.if-not-tree_right.false)

pub returns : goal.returns
returns c = none_fails _ _ _ c.loop-i.invariant (c.loop-i.auto.i-end c.plain_run-i.ensures.0) (omega arith)
