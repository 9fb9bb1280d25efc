use Rattle.ghost_links.proofs.Checking.{summed_all}
use Rattle.mesh.proofs.Checking.{sum_next}
use Rattle.encoding.proofs.Below.{all_more, all_fails}
use Rattle.encoding.specs.Below.{all_below, sum_below}
use native.Mathlib.Omega.{arith}
use borrow.Author.Rules.{rules}
use Rattle.ghost_links.proofs.check.ghosts_linked.Goals as goal

pub loop-j-init : goal.loop-j-init
unfolding all_below sum_below
loop-j-init c = search rules

pub returns-in_err-seen : goal.returns-in_err-seen
returns-in_err-seen c = rw c.from_residual.ensures (all_fails _ _ _ c.loop-j-test.true c.in_err-seen.ensures)

pub overflow_add-ups : goal.overflow_add-ups
overflow_add-ups c = omega (arith, c.in_ok-seen.ensures.1.few.0)

pub overflow_add-downs : goal.overflow_add-downs
overflow_add-downs c = omega (arith, c.in_ok-seen.ensures.1.few.1)

pub loop-j-preserved : goal.loop-j-preserved
loop-j-preserved c =
    let before = c.loop-j.invariant in
    let seen = c.in_ok-seen.ensures in (
      all_more _ _ before.0 seen.0,
      (sum_next _ _ seen.1.upward before.1.0, omega (arith, seen.1.few.0)),
      (sum_next _ _ seen.1.downward before.2.0, omega (arith, seen.1.few.1)),
    )

pub returns : goal.returns
returns c =
    let before = c.loop-j.invariant in
    summed_all _ _ _ _ _ c.loop-j.auto.j-end (omega arith) before.0 before.1 before.2
