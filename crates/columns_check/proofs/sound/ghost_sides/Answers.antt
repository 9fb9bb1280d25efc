use Rattle.std.proofs.Common.{◌≡◌, ◌+◌}
use Rattle.columns_check.proofs.Summing.{counted_all, count_block, ghosts_more, low_fails, linked_fails}
use Rattle.encoding.specs.Below.{all_below, count_below}
use native.Mathlib.Omega.{arith}
use mathlib.Core.Path.{sym, ◌∙◌}
use borrow.Author.Rules.{rules}
use Rattle.columns_check.proofs.sound.ghost_sides.Goals as goal

pub loop-j-init : goal.loop-j-init
unfolding all_below count_below
loop-j-init c = search rules

pub returns-in_err-links : goal.returns-in_err-links
returns-in_err-links c = rw c.from_residual.ensures (low_fails _ _ _ _ _ _ _ _ _ _ _ (omega arith) c.in_err-links.ensures)

pub listed_linked-requires : goal.listed_linked-requires
listed_linked-requires c = (c.requires.0, omega arith, omega arith, c.requires.1, c.in_ok-links.ensures.2)

pub returns-then-not-listed_linked : goal.returns-then-not-listed_linked
returns-then-not-listed_linked c = linked_fails _ _ _ _ _ _ _ _ _ _ _ (omega arith) (sym c.listed_linked.ensures ∙ c.if-not-listed_linked.true)

pub overflow_add-ups : goal.overflow_add-ups
overflow_add-ups c = omega (arith, c.in_ok-links.ensures.1.few.0)

pub overflow_add-downs : goal.overflow_add-downs
overflow_add-downs c = omega (arith, c.in_ok-links.ensures.1.few.1)

pub loop-j-preserved : goal.loop-j-preserved
loop-j-preserved c =
    let before = c.loop-j.invariant in
    let links = c.in_ok-links.ensures in
    let e : c.min-many.result ≡ 6 = omega arith in (
      omega arith,
      rw e at (ghosts_more _ _ _ _ _ _ _ _ _ _ _ before.1 links.0 (sym c.listed_linked.ensures ∙ c.if-not-listed_linked.false)),
      (rw e at (count_block _ _ _ before.2.0 links.1.upward), omega (arith, links.1.few.0)),
      (rw e at (count_block _ _ _ before.3.0 links.1.downward), omega (arith, links.1.few.1)),
    )

pub returns : goal.returns
returns c = counted_all _ _ _ _ _ c.loop-j.invariant.0 (omega arith) (omega arith) c.loop-j.invariant.1 c.loop-j.invariant.2 c.loop-j.invariant.3

pub returns-else-not-listed_linked : goal.returns-else-not-listed_linked
returns-else-not-listed_linked c =
    let before = c.loop-j.invariant in
    let links = c.in_ok-links.ensures in
    counted_all _ (c.loop-j.j + c.min-many.result) _ _ _ (omega arith) (omega arith) (omega arith)
    (ghosts_more _ _ _ _ _ _ _ _ _ _ _ before.1 links.0 (sym c.listed_linked.ensures ∙ c.if-not-listed_linked.false))
    (count_block _ _ _ before.2.0 links.1.upward, omega (arith, links.1.few.0))
    (count_block _ _ _ before.3.0 links.1.downward, omega (arith, links.1.few.1))
