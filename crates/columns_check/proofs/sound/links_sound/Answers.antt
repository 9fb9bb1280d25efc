use Rattle.columns_check.proofs.Summing.{links_fail, links_all}
use Rattle.mesh.proofs.Checking.{sum_next}
use Rattle.encoding.proofs.Below.{all_more}
use Rattle.encoding.specs.Below.{all_below, sum_below}
use native.Mathlib.Omega.{arith}
use borrow.Author.Rules.{rules}
use Rattle.columns_check.proofs.sound.links_sound.Goals as goal

pub loop-face-init : goal.loop-face-init
unfolding all_below sum_below
loop-face-init c = search rules

pub returns-in_default : goal.returns-in_default
returns-in_default c = links_fail _ _ _ _ _ _ _ _ _ c.loop-face-test.true c.in_default.ensures

pub loop-face-preserved : goal.loop-face-preserved
loop-face-preserved c =
    let before = c.loop-face.invariant in
    let seen = c.in-Some.ensures in (
      all_more _ _ before.0 seen.0,
      (sum_next _ _ seen.1.upward before.1.0, omega (arith, seen.1.few.0)),
      (sum_next _ _ seen.1.downward before.2.0, omega (arith, seen.1.few.1)),
    )

pub returns : goal.returns
returns c =
    let before = c.loop-face.invariant in
    links_all _ _ _ _ _ _ _ _ _ c.loop-face.auto.face-end (omega arith) before.0 before.1.0 before.2.0
