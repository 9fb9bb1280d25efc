use native.Mathlib.Omega.{arith}
use Rattle.positions.proofs.Members.{member_behind}
use Rattle.message_ghosts.proofs.Walking.{walk_start, walk_goes, walk_stays, walk_end, member_record, member_fits, member_below}
use Rattle.message_ghosts.proofs.marks.mark_near.Goals as goal

pub overflow_cast-end : goal.overflow_cast-end
overflow_cast-end c = omega (arith, c.requires.1.few)

pub overflow_mul-end : goal.overflow_mul-end
overflow_mul-end c = omega (arith, c.requires.1.few)

pub next_member-j-requires : goal.next_member-j-requires
next_member-j-requires c = omega (arith, c.requires.1.few)

pub loop-j-init : goal.loop-j-init
loop-j-init c = walk_start _ _ _ _ _ _ _ _ _ c.next_member-j.ensures

pub number_at-k-requires : goal.number_at-k-requires
number_at-k-requires c =
    let pre = c.requires in
    let loop = c.loop-j in
    member_fits _ _ _ _ _ _ pre.0 pre.1 _ (loop.invariant.member (omega arith))

pub overflow_add-i : goal.overflow_add-i
overflow_add-i c = omega (arith, c.requires.1.few)

pub next_member-j-requires-in-loop-j : goal.next_member-j-requires-in-loop-j
next_member-j-requires-in-loop-j c = omega (arith, c.requires.1.few)

pub goes-requires : goal.goes-requires
goes-requires c =
    let pre = c.requires in
    let loop = c.loop-j in
    let number_at_call = c.number_at-k in
    (member_record _ _ _ _ _ _ pre.0 pre.1 _ (loop.invariant.member (omega arith)), number_at_call.ensures, pre.3, pre.4)

pub add_member-requires : goal.add_member-requires
add_member-requires c =
    let pre = c.requires in
    let loop = c.loop-j in
    let number_at_call = c.number_at-k in
    omega (arith, member_below _ _ _ _ _ _ pre.0 pre.1 _ (loop.invariant.member (omega arith)) number_at_call.ensures, pre.2.enough, loop.invariant.added.same_length)

pub loop-j-smaller-then-goes : goal.loop-j-smaller-then-goes
loop-j-smaller-then-goes c = omega (arith, member_behind _ _ _ c.next_member-j-in-loop-j.ensures)

pub loop-j-preserved-then-goes : goal.loop-j-preserved-then-goes
loop-j-preserved-then-goes c =
    let loop = c.loop-j in
    let next-member2 = c.next_member-j-in-loop-j in
    let number_at_call = c.number_at-k in
    let goes = c.goes in
    let if1 = c.if-goes in
    let pre = c.requires in
    let add-member = c.add_member in
    let below = member_below _ _ _ _ _ _ pre.0 pre.1 _ (loop.invariant.member (omega arith)) number_at_call.ensures in
    walk_goes _ _ _ _ _ _ _ _ _ loop.invariant (omega arith) next-member2.ensures number_at_call.ensures goes.ensures if1.true (omega (arith, below, pre.2.enough, loop.invariant.added.same_length)) add-member.ensures

pub loop-j-smaller : goal.loop-j-smaller
loop-j-smaller c = omega (arith, member_behind _ _ _ c.next_member-j-in-loop-j.ensures)

pub loop-j-preserved : goal.loop-j-preserved
loop-j-preserved c =
    let loop = c.loop-j in
    let next-member2 = c.next_member-j-in-loop-j in
    let number_at_call = c.number_at-k in
    let goes = c.goes in
    walk_stays _ _ _ _ _ _ _ _ _ loop.invariant (omega arith) next-member2.ensures number_at_call.ensures goes.ensures c.if-goes.false

pub shape_of-marks : goal.shape_of-marks
shape_of-marks c = c.loop-j.invariant.added.same_length

pub returns : goal.returns
returns c = walk_end _ _ _ _ _ _ _ _ _ c.loop-j.invariant (omega arith)
