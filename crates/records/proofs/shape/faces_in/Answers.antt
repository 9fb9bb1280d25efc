use Rattle.records.specs.Shape.{faces_in}
use lib.Dec.{lit<, lit≤}
use borrow.Author.Tests.{eq-eqb, ne_eqb}
use Rattle.records.proofs.shape.faces_in.Goals as goal

pub returns-then-dimension-eq2 : goal.returns-then-dimension-eq2
unfolding faces_in
returns-then-dimension-eq2 c = (simp (eq-eqb _ _ c.if-dimension-eq2.true), (lit< tt, lit≤ tt))

pub returns-else-dimension-eq2 : goal.returns-else-dimension-eq2
unfolding faces_in
returns-else-dimension-eq2 c = (simp (ne_eqb _ _ c.if-dimension-eq2.false), (lit< tt, lit≤ tt))
