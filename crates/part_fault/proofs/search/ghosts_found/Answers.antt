use Rattle.part_fault.proofs.Found.{first_fails, none_fails}
use Rattle.encoding.proofs.Below.{all_more}
use Rattle.encoding.specs.Below.{all_below}
use native.Mathlib.Omega.{arith}
use mathlib.Core.Path.{refl, sym, ◌∙◌}
use Rattle.part_fault.proofs.search.ghosts_found.Goals as goal

pub loop-j-init : goal.loop-j-init
unfolding all_below
loop-j-init c = refl

pub returns-then-not-ghost_numbered : goal.returns-then-not-ghost_numbered
returns-then-not-ghost_numbered c =
    let loop = c.loop-j in
    let loop-test = c.loop-j-test in
    let ghost-numbered = c.ghost_numbered in
    first_fails _ _ _ loop.invariant loop-test.true (sym ghost-numbered.ensures ∙ c.if-not-ghost_numbered.true)

pub loop-j-preserved : goal.loop-j-preserved
loop-j-preserved c = all_more _ _ c.loop-j.invariant (sym c.ghost_numbered.ensures ∙ c.if-not-ghost_numbered.false)

pub returns : goal.returns
returns c = none_fails _ _ _ c.loop-j.invariant c.loop-j.auto.j-end (omega arith)
