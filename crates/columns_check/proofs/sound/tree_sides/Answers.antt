use Rattle.columns_check.proofs.Summing.{counted_all}
use Rattle.columns_read.proofs.Runs.{all_run, count_run}
use Rattle.encoding.proofs.Below.{all_fails}
use Rattle.encoding.specs.Below.{all_below, count_below}
use native.Mathlib.Omega.{arith}
use mathlib.Core.Path.{sym, ◌∙◌}
use borrow.Author.Rules.{rules}
use Rattle.columns_check.proofs.sound.tree_sides.Goals as goal

pub loop-i-init : goal.loop-i-init
unfolding all_below count_below
loop-i-init c = search rules

pub returns-then-not-tree_side : goal.returns-then-not-tree_side
returns-then-not-tree_side c =
    let loop-test = c.loop-i-test in
    let tree-side = c.tree_side in
    let if1 = c.if-not-tree_side in
    all_fails _ _ _ loop-test.true (sym tree-side.ensures ∙ if1.true)

pub loop-i-preserved : goal.loop-i-preserved
loop-i-preserved c =
    let sides-on = c.sides_on-many in
    let loop = c.loop-i in
    let tree-side = c.tree_side in
    let if1 = c.if-not-tree_side in
    let leads_up_call = c.leads_up in
    let times = c.times-ups in
    let leads_down_call = c.leads_down in (
      omega (arith, sides-on.ensures.within),
      all_run _ _ _ loop.invariant.1 (sym tree-side.ensures ∙ if1.false) sides-on.ensures.sound,
      (count_run _ _ _ loop.invariant.2.0 leads_up_call.ensures times.ensures.0 sides-on.ensures.up, omega (arith, times.ensures.1)),
      (count_run _ _ _ loop.invariant.3.0 leads_down_call.ensures c.times-downs.ensures.0 sides-on.ensures.down, omega (arith, c.times-downs.ensures.1)),
    )

pub returns : goal.returns
returns c = counted_all _ _ _ _ _ c.loop-i.invariant.0 (omega arith) (omega arith) c.loop-i.invariant.1 c.loop-i.invariant.2 c.loop-i.invariant.3
