use Rattle.columns_check.proofs.Held.{ghosts_few}
use Rattle.columns_check.proofs.Summing.{from_is, not_listed, listed_is}
use Rattle.mesh.proofs.Packing.{left_all, left_none, left_next, next_digit, next_passes}
use Rattle.encoding.proofs.Below.{all_fails}
use native.Mathlib.Omega.{arith}
use mathlib.Core.Path.{sym, ◌∙◌}
use Rattle.columns_check.proofs.sound.listed_linked.Goals as goal

pub loop-left-init : goal.loop-left-init
loop-left-init c = left_all _ _ _ c.requires.4

pub overflow_sub-left : goal.overflow_sub-left
overflow_sub-left c =
    let loop = c.loop-left in
    let pre = c.requires in
    omega (arith, next_digit _ _ _ (not_listed _ _ _ _ _ _ _ _ _ _) loop.invariant c.loop-left-test.true pre.2)

pub overflow_add-start : goal.overflow_add-start
overflow_add-start c =
    let loop = c.loop-left in
    let pre = c.requires in
    let next = next_passes _ _ _ (not_listed _ _ _ _ _ _ _ _ _ _) loop.invariant c.loop-left-test.true pre.2 in omega (arith, next.1, ghosts_few _ _ _ _ _ pre.0.numbered, pre.0.numbered.laid.most)

pub ghost_linked-requires : goal.ghost_linked-requires
ghost_linked-requires c =
    let loop = c.loop-left in
    let pre = c.requires in
    let next = next_passes _ _ _ (not_listed _ _ _ _ _ _ _ _ _ _) loop.invariant c.loop-left-test.true pre.2 in (pre.0, omega (arith, next.1, pre.1), pre.3, sym (from_is _ _ _) ∙ next.0)

pub returns-then-not-ghost_linked : goal.returns-then-not-ghost_linked
returns-then-not-ghost_linked c =
    let loop = c.loop-left in
    let loop-test = c.loop-left-test in
    let pre = c.requires in
    let ghost_linked = c.ghost_linked in
    let next = next_passes _ _ _ (not_listed _ _ _ _ _ _ _ _ _ _) loop.invariant loop-test.true pre.2 in sym (all_fails _ _ _ next.1 (listed_is _ _ _ _ _ _ _ _ _ _ _ next.0 ghost_linked.ensures ∙ c.if-not-ghost_linked.true))

pub loop-left-preserved : goal.loop-left-preserved
loop-left-preserved c =
    let loop = c.loop-left in
    let loop-test = c.loop-left-test in
    let pre = c.requires in
    let ghost_linked = c.ghost_linked in
    let next = next_passes _ _ _ (not_listed _ _ _ _ _ _ _ _ _ _) loop.invariant loop-test.true pre.2 in left_next _ _ _ (not_listed _ _ _ _ _ _ _ _ _ _) loop.invariant loop-test.true pre.2 (listed_is _ _ _ _ _ _ _ _ _ _ _ next.0 ghost_linked.ensures ∙ c.if-not-ghost_linked.false)

pub returns : goal.returns
returns c = sym (left_none _ _ _ (not_listed _ _ _ _ _ _ _ _ _ _) c.loop-left.invariant (omega arith))
