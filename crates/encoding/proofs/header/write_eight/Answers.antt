use mathlib.Core.Path.{◌≡◌}
use native.Mathlib.Omega.{arith}
use Rattle.encoding.proofs.Headers.{begun_none, begun_next, begun_all}
use Rattle.encoding.proofs.header.write_eight.Goals as goal

pub loop-i-init : goal.loop-i-init
loop-i-init c = begun_none _ _ c.requires

pub write_u32-requires : goal.write_u32-requires
write_u32-requires c = omega (arith, c.loop-i.invariant.same_length, c.requires)

pub loop-i-preserved : goal.loop-i-preserved
loop-i-preserved c = begun_next _ _ c.requires _ c.loop-i-test.true c.loop-i.invariant c.write_u32.ensures

pub returns : goal.returns
returns c =
    let e : c.loop-i.i ≡ 8 = omega arith in
    begun_all _ _ c.requires (rw e at c.loop-i.invariant)
