use Rattle.encoding.proofs.Below.{all_more, all_fails, all_to}
use Rattle.encoding.specs.Below.{all_below}
use native.Mathlib.Omega.{arith}
use mathlib.Core.Path.{sym, ◌∙◌}
use borrow.Author.Rules.{rules}
use Rattle.area_check.proofs.sound.ghosts_held.Goals as goal

pub loop-j-init : goal.loop-j-init
unfolding all_below
loop-j-init c = search rules

pub returns-then-not-ghost_held : goal.returns-then-not-ghost_held
returns-then-not-ghost_held c = sym (all_fails _ _ _ c.loop-j-test.true (sym c.ghost_held.ensures ∙ c.if-not-ghost_held.true))

pub loop-j-preserved : goal.loop-j-preserved
loop-j-preserved c = all_more _ _ c.loop-j.invariant (sym c.ghost_held.ensures ∙ c.if-not-ghost_held.false)

pub returns : goal.returns
returns c = sym (all_to _ _ _ c.loop-j.auto.j-end (omega arith) c.loop-j.invariant)
