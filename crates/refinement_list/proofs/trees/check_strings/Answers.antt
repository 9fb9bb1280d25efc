use mathlib.Core.Path.{refl}
use Rattle.refinement_list.proofs.Lists.{surveyed_start, surveyed_short, surveyed_bad, surveyed_turn, surveyed_left, surveyed_large, surveyed_fit}
use Rattle.refinement_list.proofs.trees.check_strings.Goals as goal

pub loop-i-init : goal.loop-i-init
loop-i-init c = surveyed_start _ _ _

pub returns-then-bits-at : goal.returns-then-bits-at
returns-then-bits-at c = surveyed_short _ _ _ _ _ _ c.loop-i.invariant _ c.loop-i-test.true refl c.if-bits-at.true

pub returns-in_default : goal.returns-in_default
returns-in_default c = surveyed_bad _ _ _ _ _ _ c.loop-i.invariant _ c.loop-i-test.true refl c.in_default.ensures.0

pub loop-i-preserved : goal.loop-i-preserved
loop-i-preserved c = surveyed_turn _ _ _ _ _ _ c.loop-i.invariant _ c.loop-i-test.true refl _ c.in-Some.ensures.0 c.if-bits-at.false

pub returns-then-at-bits : goal.returns-then-at-bits
returns-then-at-bits c = surveyed_left _ _ _ _ _ _ c.loop-i.invariant c.loop-i-test.false c.if-at-bits.true

pub returns-then-not-small : goal.returns-then-not-small
returns-then-not-small c = surveyed_large _ _ _ _ _ _ c.loop-i.invariant c.loop-i-test.false c.if-at-bits.false c.if-not-small.true

pub returns : goal.returns
returns c = surveyed_fit _ _ _ _ _ _ c.loop-i.invariant c.loop-i-test.false c.if-at-bits.false c.if-not-small.false
