use Rattle.pattern.proofs.Laws.{look_start, look_more, look_found, look_none}
use mathlib.Core.Path.{sym, ◌∙◌}
use native.Mathlib.Omega.{arith}
use Rattle.pattern.proofs.range.upper_rank.Goals as goal

pub ranks-end-requires : goal.ranks-end-requires
ranks-end-requires c = c.requires.0

pub loop-n-init : goal.loop-n-init
loop-n-init c = look_start _ _ c.requires.1

pub has_trees-requires : goal.has_trees-requires
has_trees-requires c = omega (arith, c.ranks-end.ensures.1.2)

pub returns-then-has_trees : goal.returns-then-has_trees
returns-then-has_trees c =
    let ranks = c.ranks-end in
    let loop = c.loop-n in
    let loop-test = c.loop-n-test in
    let has_trees_call = c.has_trees in
    (look_found _ _ _ _ ranks.ensures.0 loop.invariant loop-test.true (sym has_trees_call.ensures ∙ c.if-has_trees.true), omega arith)

pub loop-n-preserved : goal.loop-n-preserved
loop-n-preserved c =
    let ranks = c.ranks-end in
    let loop = c.loop-n in
    let loop-test = c.loop-n-test in
    let has_trees_call = c.has_trees in
    look_more _ _ _ _ ranks.ensures.0 loop.invariant loop-test.true (sym has_trees_call.ensures ∙ c.if-has_trees.false)

pub returns : goal.returns
returns c = (look_none _ _ _ _ c.ranks-end.ensures.0 c.loop-n.invariant c.loop-n-test.false, c.ranks-end.ensures.1.1)
