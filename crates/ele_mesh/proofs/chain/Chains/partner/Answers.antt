use mathlib.Core.Path.{refl}
use native.Mathlib.Omega.{arith}
use Rattle.ele_mesh.proofs.Chains.{sought_start, sought_found, sought_less, sought_more, sought_none}
use Rattle.ele_mesh.proofs.chain.Chains.partner.Goals as goal

pub hash_of-requires : goal.hash_of-requires
hash_of-requires c = (c.requires.0.whole, c.requires.1, c.requires.0.modulus.some)

pub loop-at-init : goal.loop-at-init
loop-at-init c = (c.requires.0, (c.requires.1, sought_start _ _ _ _ c.requires.0 _ c.requires.1 c.hash_of.ensures.0 c.hash_of.ensures.1 refl))

pub same_set-requires : goal.same_set-requires
same_set-requires c = (c.loop-at.invariant.0.whole, c.loop-at.invariant.1.0, omega (arith, c.loop-at.invariant.1.1.below, c.loop-at.invariant.1.0))

pub returns-then-g-f : goal.returns-then-g-f
returns-then-g-f c =
    let i = c.loop-at.invariant in
    (sought_found _ _ _ _ _ _ _ i.1.1 c.loop-at-test.true c.same_set.ensures c.if-g-f.true, omega (arith, i.1.1.below))

pub loop-at-smaller : goal.loop-at-smaller
loop-at-smaller c = sought_less _ _ _ _ _ _ _ c.loop-at.invariant.1.1 c.loop-at-test.true c.same_set.ensures c.if-g-f.false refl

pub loop-at-preserved : goal.loop-at-preserved
loop-at-preserved c =
    let i = c.loop-at.invariant in
    (i.0, (i.1.0, sought_more _ _ _ _ _ _ _ i.1.1 c.loop-at-test.true c.same_set.ensures c.if-g-f.false refl))

pub returns : goal.returns
returns c = (sought_none _ _ _ _ _ _ _ c.loop-at.invariant.1.1 c.loop-at-test.false, tt)
