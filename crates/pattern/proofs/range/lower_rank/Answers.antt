use Rattle.pattern.proofs.Laws.{row_fits, lower_skip, lower_found, lower_none}
use Rattle.offsets.proofs.OnePass.{ranks_known}
use mathlib.Core.Path.{refl, sym, ◌∙◌}
use native.Mathlib.Omega.{arith}
use Rattle.pattern.proofs.range.lower_rank.Goals as goal

pub loop-m-init : goal.loop-m-init
loop-m-init c = refl

pub has_trees-requires : goal.has_trees-requires
has_trees-requires c = omega (arith, row_fits _ c.args.p c.requires.0 c.requires.1)

pub returns-then-has_trees : goal.returns-then-has_trees
returns-then-has_trees c =
    let loop = c.loop-m in
    let has_trees_call = c.has_trees in
    let pre = c.requires in
    (lower_found _ _ _ _ loop.invariant (omega arith) (sym has_trees_call.ensures ∙ c.if-has_trees.true), omega (arith, (ranks_known _ pre.0).high))

pub loop-m-preserved : goal.loop-m-preserved
loop-m-preserved c = lower_skip _ _ _ _ c.loop-m.invariant (omega arith) (sym c.has_trees.ensures ∙ c.if-has_trees.false)

pub returns : goal.returns
returns c = (lower_none _ _ _ c.loop-m.invariant c.loop-m-test.false, omega arith)
