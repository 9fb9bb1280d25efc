use Rattle.part.proofs.Search.{between_start, between_above, between_below, between_end}
use native.Mathlib.Omega.{arith}
use Rattle.part.proofs.range.find_ghost.Goals as goal

pub loop-low-init : goal.loop-low-init
loop-low-init c = between_start _ _ _ _ c.requires

pub loop-low-preserved-then-read_u32-k : goal.loop-low-preserved-then-read_u32-k
loop-low-preserved-then-read_u32-k c =
    let pre = c.requires in
    let loop = c.loop-low in
    let read_u32 = c.read_u32 in
    between_above _ _ _ _ pre loop.invariant (omega arith) (omega arith) read_u32.ensures c.if-read_u32-k.true

pub loop-low-preserved : goal.loop-low-preserved
loop-low-preserved c =
    let pre = c.requires in
    let loop = c.loop-low in
    let read_u32 = c.read_u32 in
    between_below _ _ _ _ pre loop.invariant (omega arith) (omega arith) read_u32.ensures c.if-read_u32-k.false

pub returns : goal.returns
returns c = between_end _ _ _ _ c.requires c.loop-low.invariant c.loop-low-test.false
