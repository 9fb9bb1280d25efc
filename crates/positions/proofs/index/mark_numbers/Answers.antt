use Rattle.positions.proofs.Positions.{mark_start, mark_low, mark_more, mark_end}
use native.Mathlib.Omega.{arith}
use Rattle.positions.proofs.index.mark_numbers.Goals as goal

pub loop-i-init : goal.loop-i-init
loop-i-init c = mark_start _ _ _

pub add_member-requires : goal.add_member-requires
add_member-requires c =
    let pre = c.requires in
    let loop-test = c.loop-i-test in
    let read_u32 = c.read_u32-k in
    let loop = c.loop-i in
    mark_low _ _ _ pre loop-test.true read_u32.ensures loop.invariant

pub loop-i-preserved : goal.loop-i-preserved
loop-i-preserved c =
    let pre = c.requires in
    let loop-test = c.loop-i-test in
    let read_u32 = c.read_u32-k in
    let loop = c.loop-i in
    let add-member = c.add_member in
    mark_more _ _ _ pre loop-test.true read_u32.ensures loop.invariant add-member.ensures

pub returns : goal.returns
returns c = mark_end _ _ _ c.loop-i.invariant c.loop-i.auto.i-end (omega arith)
