use Rattle.deliver_ghosts.proofs.Marking.{held_start, held_next, held_end, number_low}
use native.Mathlib.Omega.{arith}
use Rattle.deliver_ghosts.proofs.ghosts.mark_held.Goals as goal

pub loop-i-init : goal.loop-i-init
loop-i-init c = held_start _ _ _

pub add_member-requires : goal.add_member-requires
add_member-requires c =
    let pre = c.requires in
    let loop-test = c.loop-i-test in
    let read_u32 = c.read_u32-k in
    let loop = c.loop-i in
    omega (arith, number_low _ _ pre _ loop-test.true read_u32.ensures, loop.invariant.same_length)

pub loop-i-preserved : goal.loop-i-preserved
loop-i-preserved c =
    let loop = c.loop-i in
    let read_u32 = c.read_u32-k in
    let pre = c.requires in
    let loop-test = c.loop-i-test in
    let add-member = c.add_member in
    held_next _ _ _ loop.invariant read_u32.ensures (number_low _ _ pre _ loop-test.true read_u32.ensures) add-member.ensures

pub shape_of-marks : goal.shape_of-marks
shape_of-marks c = c.loop-i.invariant.same_length

pub returns : goal.returns
returns c = held_end _ _ c.loop-i.invariant c.loop-i.auto.i-end (omega arith)
