use mathlib.Core.Path.{sym}
use native.Mathlib.Omega.{arith}
use borrow.Author.Tests.{lt-ltb, le-ltb}
use Rattle.encoding.specs.Below.{all_below}
use Rattle.encoding.proofs.Below.{all_more, all_fails, all_to}
use Rattle.message.proofs.Checking.{six_faces}
use borrow.Author.Rules.{rules}
use Rattle.message.proofs.layout.neighbours_below.Goals as goal

pub returns-then-faces-eq6 : goal.returns-then-faces-eq6
returns-then-faces-eq6 c = six_faces _ _ c.if-faces-eq6.true c.six_below.ensures

pub loop-face-init : goal.loop-face-init
unfolding all_below
loop-face-init c = search rules

pub returns-then-below-neighbour_of : goal.returns-then-below-neighbour_of
returns-then-below-neighbour_of c = sym (all_fails _ _ _ c.loop-face-test.true (rw (← c.neighbour_of.ensures) (le-ltb _ _ c.if-below-neighbour_of.true)))

pub loop-face-preserved : goal.loop-face-preserved
loop-face-preserved c = all_more _ _ c.loop-face.invariant (rw (← c.neighbour_of.ensures) (lt-ltb _ _ c.if-below-neighbour_of.false))

pub returns : goal.returns
returns c = sym (all_to _ _ _ c.loop-face.auto.face-end (omega arith) c.loop-face.invariant)
