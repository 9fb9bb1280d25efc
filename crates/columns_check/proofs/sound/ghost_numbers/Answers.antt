use mathlib.Core.Path.{sym, ◌∙◌}
use native.Mathlib.Omega.{arith}
use Rattle.encoding.specs.Below.{all_below}
use Rattle.encoding.proofs.Below.{all_more, all_fails, all_to}
use borrow.Author.Rules.{rules}
use Rattle.columns_check.proofs.sound.ghost_numbers.Goals as goal

pub loop-j-init : goal.loop-j-init
unfolding all_below
loop-j-init c = search rules

pub returns-then-not-ghost_numbered : goal.returns-then-not-ghost_numbered
returns-then-not-ghost_numbered c = sym (all_fails _ _ _ c.loop-j-test.true (sym c.ghost_numbered.ensures ∙ c.if-not-ghost_numbered.true))

pub loop-j-preserved : goal.loop-j-preserved
loop-j-preserved c = all_more _ _ c.loop-j.invariant (sym c.ghost_numbered.ensures ∙ c.if-not-ghost_numbered.false)

pub returns : goal.returns
returns c = sym (all_to _ _ _ c.loop-j.auto.j-end (omega arith) c.loop-j.invariant)
