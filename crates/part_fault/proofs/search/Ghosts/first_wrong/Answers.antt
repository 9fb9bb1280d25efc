use mathlib.Core.Path.{refl, sym, ◌∙◌}
use native.Mathlib.Omega.{arith}
use Rattle.encoding.specs.Below.{all_below}
use Rattle.encoding.proofs.Below.{all_more}
use Rattle.part_fault.proofs.Found.{first_fails, none_fails}
use Rattle.part_fault.proofs.search.Ghosts.first_wrong.Goals as goal

pub loop-j-init : goal.loop-j-init
unfolding all_below
loop-j-init c = refl

pub returns-then-not-right : goal.returns-then-not-right
returns-then-not-right c =
    let loop = c.loop-j in
    let if1 = c.loop-j-test in
    let right = c.right in
    (if1.true, first_fails _ _ _ loop.invariant if1.true (sym right.ensures ∙ c.if-not-right.true))

pub loop-j-preserved : goal.loop-j-preserved
loop-j-preserved c = all_more _ _ c.loop-j.invariant (sym c.right.ensures ∙ c.if-not-right.false)

pub returns : goal.returns
returns c = none_fails _ _ _ c.loop-j.invariant c.loop-j.auto.j-end (omega arith)
