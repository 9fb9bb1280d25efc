use mathlib.Core.Path.{refl}
use native.Mathlib.Omega.{arith}
use Rattle.ele_mesh.proofs.Chains.{one_if, one_most, counted_start, counted_small, counted_less, counted_more, counted_done}
use Rattle.ele_mesh.proofs.chain.Chains.earlier.Goals as goal

pub bounds-self-f : goal.bounds-self-f
bounds-self-f c = omega (arith, c.requires.0.faces, c.requires.0.whole.most)

pub loop-at-init : goal.loop-at-init
loop-at-init c = (c.requires.0, (c.requires.1, counted_start _ _ _ _ c.requires.0 _ c.requires.1 refl))

pub same_set-requires : goal.same_set-requires
same_set-requires c = (c.loop-at.invariant.0.whole, c.loop-at.invariant.1.0, omega (arith, c.loop-at.invariant.1.1.below, c.loop-at.invariant.1.0))

pub bounds-self-g : goal.bounds-self-g
bounds-self-g c = omega (arith, c.loop-at.invariant.0.faces, c.loop-at.invariant.0.whole.most, c.loop-at.invariant.1.1.below, c.loop-at.invariant.1.0)

pub overflow_add-n : goal.overflow_add-n
overflow_add-n c = omega (arith, counted_small _ _ _ _ _ _ _ c.loop-at.invariant.1.1, one_most c.same_set.result)

pub loop-at-smaller : goal.loop-at-smaller
loop-at-smaller c = counted_less _ _ _ _ _ _ _ c.loop-at.invariant.1.1 c.loop-at-test.true (one_if c.same_set.result c.same_set.ensures) refl

pub loop-at-preserved : goal.loop-at-preserved
loop-at-preserved c =
    let i = c.loop-at.invariant in
    (i.0, (i.1.0, counted_more _ _ _ _ _ _ _ i.1.1 c.loop-at-test.true (one_if c.same_set.result c.same_set.ensures) refl))

pub returns : goal.returns
returns c = counted_done _ _ _ _ _ _ _ c.loop-at.invariant.1.1 c.loop-at-test.false
