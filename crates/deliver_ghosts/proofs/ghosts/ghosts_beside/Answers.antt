use mathlib.Core.Path.{sym, ◌∙◌}
use native.Mathlib.Omega.{arith}
use Rattle.encoding.specs.Below.{all_below}
use Rattle.encoding.proofs.Below.{all_more, all_fails, all_to}
use Rattle.deliver_ghosts.proofs.Rooms.{layout_header}
use borrow.Author.Rules.{rules}
use Rattle.deliver_ghosts.proofs.ghosts.ghosts_beside.Goals as goal

pub trees_below-below-requires : goal.trees_below-below-requires
trees_below-below-requires c = layout_header _ c.requires.laid

pub tree_count-count-requires : goal.tree_count-count-requires
tree_count-count-requires c = layout_header _ c.requires.laid

pub ghost_count-j-end-requires : goal.ghost_count-j-end-requires
ghost_count-j-end-requires c = layout_header _ c.requires.laid

pub loop-j-init : goal.loop-j-init
unfolding all_below
loop-j-init c = search rules

pub ghost_beside-requires : goal.ghost_beside-requires
ghost_beside-requires c =
    let pre = c.requires in
    let trees-below = c.trees_below-below in
    let tree_count_call = c.tree_count-count in
    let ghost-count = c.ghost_count-j-end in
    (pre, trees-below.ensures, tree_count_call.ensures, omega (arith, ghost-count.ensures))

pub returns-then-not-ghost_beside : goal.returns-then-not-ghost_beside
returns-then-not-ghost_beside c =
    let loop-test = c.loop-j-test in
    let ghost-count = c.ghost_count-j-end in
    let ghost_beside_call = c.ghost_beside in
    sym (all_fails _ _ _ (omega (arith, loop-test.true, ghost-count.ensures)) (sym ghost_beside_call.ensures ∙ c.if-not-ghost_beside.true))

pub loop-j-preserved : goal.loop-j-preserved
loop-j-preserved c = all_more _ _ c.loop-j.invariant (sym c.ghost_beside.ensures ∙ c.if-not-ghost_beside.false)

pub returns : goal.returns
returns c =
    let loop = c.loop-j in
    let ghost-count = c.ghost_count-j-end in
    sym (all_to _ _ _ (omega (arith, loop.auto.j-end, ghost-count.ensures)) (omega (arith, ghost-count.ensures)) loop.invariant)
