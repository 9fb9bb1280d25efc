use mathlib.Core.Path.{sym, ◌∙◌}
use native.Mathlib.Omega.{arith}
use Rattle.encoding.specs.Below.{all_below}
use Rattle.encoding.proofs.Below.{all_fails, all_to}
use Rattle.columns_check.proofs.Finding.{head_both}
use Rattle.columns_read.proofs.Runs.{all_run}
use borrow.Author.Rules.{rules}
use Rattle.columns_check.proofs.sound.tree_heads.Goals as goal

pub loop-i-init : goal.loop-i-init
unfolding all_below
loop-i-init c = search rules

pub returns-then-not-tree_numbered-head_ok : goal.returns-then-not-tree_numbered-head_ok
returns-then-not-tree_numbered-head_ok c =
    let loop-test = c.loop-i-test in
    let tree-numbered = c.tree_numbered in
    let head_ok = c.head_ok in
    sym (all_fails _ _ _ loop-test.true (head_both _ _ _ _ _ _ _ tree-numbered.ensures head_ok.ensures ∙ c.if-not-tree_numbered-head_ok.true))

pub loop-i-preserved : goal.loop-i-preserved
loop-i-preserved c =
    let loop = c.loop-i in
    let tree-numbered = c.tree_numbered in
    let head_ok = c.head_ok in
    let if1 = c.if-not-tree_numbered-head_ok in
    (omega arith, all_run _ _ _ loop.invariant.1 (head_both _ _ _ _ _ _ _ tree-numbered.ensures head_ok.ensures ∙ if1.false) c.heads_on.ensures.1)

pub returns : goal.returns
returns c = sym (all_to _ _ _ c.loop-i.invariant.0 (omega arith) c.loop-i.invariant.1)
