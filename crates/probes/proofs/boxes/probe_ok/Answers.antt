use mathlib.Core.Path.{ap, ◌∙◌}
use mathlib.Core.Bool.{not}
use Rattle.probes.proofs.Corners.{point_ok, half_ok, slab_not, slab_ok}
use borrow.Author.Rules.{rules}
use Rattle.probes.proofs.boxes.probe_ok.Goals as goal

pub returns-in-Point : goal.returns-in-Point
returns-in-Point c = point_ok c.in-Point.is (ap not c.is_nan.ensures.value) (ap not c.is_nan-in-Point.ensures.value) (ap not c.is_nan-in-Point-2.ensures.value)

pub returns-in-HalfSpace : goal.returns-in-HalfSpace
returns-in-HalfSpace c = half_ok c.in-HalfSpace.is (ap not c.is_nan-in-HalfSpace.ensures.value)

pub returns-then-axis-is_nan : goal.returns-then-axis-is_nan
returns-then-axis-is_nan c = slab_ok c.in-Slab.is (ap not c.is_nan-in-Slab.ensures.value) (ap not c.is_nan-in-Slab-2.ensures.value) c.if-axis-is_nan.true (search rules) (search rules) c.order.ensures c.order-then-axis-is_nan.ensures

pub returns-else-axis-is_nan : goal.returns-else-axis-is_nan
returns-else-axis-is_nan c = c.if-axis-is_nan.false ∙ slab_not c.in-Slab.is (ap not c.is_nan-in-Slab.ensures.value) (ap not c.is_nan-in-Slab-2.ensures.value) c.if-axis-is_nan.false
