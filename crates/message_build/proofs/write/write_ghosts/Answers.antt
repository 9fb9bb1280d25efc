use Rattle.message_build.proofs.Ghosts.{past_none, past_on}
use Rattle.positions.proofs.Members.{member_behind, ghosts_start, ghosts_room, ghosts_next, ghosts_end}
use native.Mathlib.Omega.{arith}
use Rattle.message_build.proofs.write.write_ghosts.Goals as goal

pub loop-k-init : goal.loop-k-init
loop-k-init c =
    let pre = c.requires in
    (ghosts_start _ _ _ _ _ pre.members.long pre.room c.next_member-k.ensures, past_none _ _ _ _)

pub write_ghost-from-requires : goal.write_ghost-from-requires
write_ghost-from-requires c =
    let pre = c.requires in
    let loop = c.loop-k in
    let loop-test = c.loop-k-test in
    (record { known = pre.known; has = pre.members.has _ (loop.invariant.0.member loop-test.true); target = ghosts_room _ _ _ _ _ pre.members.long pre.room loop.invariant.0 loop-test.true }, loop.invariant.1)

pub overflow_add-to : goal.overflow_add-to
overflow_add-to c =
    let pre = c.requires in
    let loop = c.loop-k in
    let loop-test = c.loop-k-test in
    omega (arith, ghosts_room _ _ _ _ _ pre.members.long pre.room loop.invariant.0 loop-test.true)

pub loop-k-smaller : goal.loop-k-smaller
loop-k-smaller c = omega (arith, member_behind _ _ _ c.next_member-k-in-loop-k.ensures)

pub loop-k-preserved : goal.loop-k-preserved
loop-k-preserved c =
    let pre = c.requires in
    let loop = c.loop-k in
    let loop-test = c.loop-k-test in
    let write-ghost = c.write_ghost-from in
    (ghosts_next _ _ _ _ _ pre.members.long pre.room loop.invariant.0 loop-test.true write-ghost.ensures.0 c.next_member-k-in-loop-k.ensures, past_on write-ghost.ensures.1 (member_behind _ _ _ c.next_member-k-in-loop-k.ensures))

pub shape_of-out : goal.shape_of-out
shape_of-out c = c.loop-k.invariant.0.same_length

pub returns : goal.returns
returns c =
    let pre = c.requires in
    let loop = c.loop-k in
    ghosts_end _ _ _ _ _ pre.members.long pre.room loop.invariant.0 c.loop-k-test.false
