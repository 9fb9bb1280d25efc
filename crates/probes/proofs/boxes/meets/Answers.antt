use Rattle.probes.proofs.Corners.{point_meets, half_axis, half_meets, slab_axis, slab_meets}
use native.Mathlib.Omega.{arith}
use Rattle.probes.proofs.boxes.meets.Goals as goal

pub number_of-requires-in-HalfSpace : goal.number_of-requires-in-HalfSpace
number_of-requires-in-HalfSpace c = (c.requires.0, omega (arith, half_axis c.in-HalfSpace.is c.requires.1))

pub number_of-requires-in-Slab : goal.number_of-requires-in-Slab
number_of-requires-in-Slab c = (c.requires.0, omega (arith, slab_axis c.in-Slab.is c.requires.1))

pub overflow_add-axis : goal.overflow_add-axis
overflow_add-axis c = omega (arith, slab_axis c.in-Slab.is c.requires.1)

pub number_of-requires-in-Slab-2 : goal.number_of-requires-in-Slab-2
number_of-requires-in-Slab-2 c =
    let pre = c.requires in
    let probe3 = c.in-Slab in
    (pre.0, omega (arith, slab_axis probe3.is pre.1))

pub returns-in-Point : goal.returns-in-Point
returns-in-Point c =
    let probe = c.in-Point in
    let number_of_call = c.number_of in
    let number-of2 = c.number_of-in-Point in
    let number-of3 = c.number_of-in-Point-2 in
    let number-of4 = c.number_of-in-Point-3 in
    let number-of5 = c.number_of-in-Point-4 in
    point_meets probe.is _ _ number_of_call.ensures number-of2.ensures number-of3.ensures number-of4.ensures number-of5.ensures c.number_of-in-Point-5.ensures

pub returns-in-HalfSpace : goal.returns-in-HalfSpace
returns-in-HalfSpace c = half_meets c.in-HalfSpace.is _ _ c.number_of-in-HalfSpace.ensures

pub returns-in-Slab : goal.returns-in-Slab
returns-in-Slab c = slab_meets c.in-Slab.is _ _ c.number_of-in-Slab.ensures c.number_of-in-Slab-2.ensures
