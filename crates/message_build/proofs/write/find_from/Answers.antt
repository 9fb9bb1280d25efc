use Rattle.message_build.proofs.Ghosts.{past_between, rest_ascending, rest_found}
use Rattle.part.proofs.Search.{between_above, between_below, between_end}
use native.Mathlib.Omega.{arith}
use mathlib.Core.Path.{refl}
use mathlib.Core.Path.{◌≡◌}
use Rattle.message_build.proofs.write.find_from.Goals as goal

pub loop-low-init : goal.loop-low-init
loop-low-init c = past_between _ _ _ _ _ c.requires.0 c.requires.1

pub find_ghost-requires : goal.find_ghost-requires
find_ghost-requires c = rest_ascending _ _ _ _ _ c.requires.0 c.loop-low.invariant refl

pub overflow_add-result : goal.overflow_add-result
overflow_add-result c = omega (arith, c.find_ghost.ensures.1)

pub returns-then-low-from-ge16 : goal.returns-then-low-from-ge16
returns-then-low-from-ge16 c =
    let pre = c.requires in
    let loop = c.loop-low in
    rest_found _ _ _ _ _ pre.0 loop.invariant refl c.find_ghost.ensures.0 c.find_ghost.ensures.1

pub returns-then-k-read_u32 : goal.returns-then-k-read_u32
returns-then-k-read_u32 c =
    let pre = c.requires in
    let loop = c.loop-low in
    let read_u32 = c.read_u32 in
    between_end _ _ _ _ pre.0 (between_below _ _ _ _ pre.0 loop.invariant (omega arith) (omega arith) read_u32.ensures c.if-k-read_u32.true) (omega arith)

pub loop-low-preserved : goal.loop-low-preserved
loop-low-preserved c =
    let pre = c.requires in
    let loop = c.loop-low in
    let read_u32 = c.read_u32 in
    between_above _ _ _ _ pre.0 loop.invariant (omega arith) (omega arith) read_u32.ensures c.if-k-read_u32.false

pub returns : goal.returns
returns c =
    let end : c.loop-low.low ≡ c.args.count = omega (arith, c.loop-low.auto.low-end c.requires.1.within, c.loop-low-test.false) in
    rw end at (between_end _ _ _ _ c.requires.0 c.loop-low.invariant c.loop-low-test.false)
