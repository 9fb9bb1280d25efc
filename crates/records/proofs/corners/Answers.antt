use Rattle.records.specs.Means.{base_corners, corners_formula}
use Rattle.records.proofs.Shapes.{by_formula}
use borrow.Author.Tests.{lt-ltb, le-ltb, le-leb, lt-leb}
use Rattle.records.proofs.corners.Goals as goal

pub returns-then-shape-gt5 : goal.returns-then-shape-gt5
unfolding corners_formula base_corners
returns-then-shape-gt5 c = by_formula _ _ (simp (lt-ltb _ _ c.if-shape-gt5.true))

pub returns-then-face-shape : goal.returns-then-face-shape
unfolding corners_formula base_corners
returns-then-face-shape c = by_formula _ _ (simp (le-ltb _ _ c.if-shape-gt5.false, le-leb _ _ c.if-shape-le1.true, lt-ltb _ _ c.if-face-shape.true))

pub returns-then-shape-le1 : goal.returns-then-shape-le1
unfolding corners_formula base_corners
returns-then-shape-le1 c = by_formula _ _ (simp (le-ltb _ _ c.if-shape-gt5.false, le-leb _ _ c.if-shape-le1.true, le-ltb _ _ c.if-face-shape.false))

pub returns-then-face-base : goal.returns-then-face-base
unfolding corners_formula base_corners
returns-then-face-base c = by_formula _ _ (simp (le-ltb _ _ c.if-shape-gt5.false, lt-leb _ _ c.if-shape-le1.false, lt-ltb _ _ c.if-face-base.true))

pub returns-then-face-base-2 : goal.returns-then-face-base-2
unfolding corners_formula base_corners
returns-then-face-base-2 c = by_formula _ _ (simp (le-ltb _ _ c.if-shape-gt5.false, lt-leb _ _ c.if-shape-le1.false, le-ltb _ _ c.if-face-base.false, lt-ltb _ _ c.if-face-base-2.true))

pub returns : goal.returns
unfolding corners_formula base_corners
returns c = by_formula _ _ (simp (le-ltb _ _ c.if-shape-gt5.false, lt-leb _ _ c.if-shape-le1.false, le-ltb _ _ c.if-face-base.false, le-ltb _ _ c.if-face-base-2.false))
