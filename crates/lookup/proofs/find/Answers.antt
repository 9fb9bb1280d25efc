use mathlib.Core.Path.{refl}
use native.Mathlib.Omega.{arith}
use Rattle.encoding.specs.Below.{any_below}
use Rattle.lookup.proofs.Finding.{whole_fits, none_more, first_found, none_found, some_there}
use Rattle.lookup.proofs.find.Goals as goal

pub loop-i-init : goal.loop-i-init
unfolding any_below
loop-i-init c = refl

pub overflow_mul-size : goal.overflow_mul-size
overflow_mul-size c = omega (arith, whole_fits c.args.size c.args.bs.now _ c.loop-i-test.true)

pub read_u32-requires : goal.read_u32-requires
read_u32-requires c = omega (arith, whole_fits c.args.size c.args.bs.now _ c.loop-i-test.true)

pub returns-then-read_u32-wanted : goal.returns-then-read_u32-wanted
returns-then-read_u32-wanted c =
    let below = c.loop-i-test.true in
    let there = some_there _ _ _ _ below (first_found _ _ _ _ below c.loop-i.invariant c.read_u32.ensures c.if-read_u32-wanted.true) in
    (there.0, there.1, below)

pub loop-i-preserved : goal.loop-i-preserved
loop-i-preserved c = none_more _ _ _ _ c.loop-i.invariant c.read_u32.ensures c.if-read_u32-wanted.false

pub returns : goal.returns
returns c = none_found _ _ _ _ c.loop-i.auto.i-end (omega arith) c.loop-i.invariant
