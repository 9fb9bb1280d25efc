use native.Mathlib.Omega.{arith}
use borrow.Author.Tests.{eq-eqb, ne_eqb}
use Rattle.records.specs.Shape.{faces_in}
use Rattle.mesh.proofs.link.parted.Goals as goal

pub returns-then-dimension-eq2 : goal.returns-then-dimension-eq2
unfolding faces_in
returns-then-dimension-eq2 c = (simp (eq-eqb _ _ c.if-dimension-eq2.true), (simp (eq-eqb _ _ c.if-dimension-eq2.true), omega arith))

pub returns : goal.returns
unfolding faces_in
returns c = (simp (ne_eqb _ _ c.if-dimension-eq2.false), (simp (ne_eqb _ _ c.if-dimension-eq2.false), omega arith))
