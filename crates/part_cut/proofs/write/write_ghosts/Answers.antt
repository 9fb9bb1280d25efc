use Rattle.part_cut.proofs.Parts.{member_long, member_copied}
use Rattle.positions.proofs.Members.{member_behind, ghosts_start, ghosts_room, ghosts_next, ghosts_end}
use native.Mathlib.Omega.{arith}
use Rattle.part_cut.proofs.write.write_ghosts.Goals as goal

pub loop-k-init : goal.loop-k-init
loop-k-init c = ghosts_start _ _ _ _ _ (member_long c.requires) c.requires.room c.next_member-k.ensures

pub copy40-requires : goal.copy40-requires
copy40-requires c =
    let tree-at = c.tree_at in
    let pre = c.requires in
    let loop = c.loop-k in
    let loop-test = c.loop-k-test in
    (omega (arith, tree-at.ensures, pre.there _ (loop.invariant.member loop-test.true)), ghosts_room _ _ _ _ _ (member_long pre) pre.room loop.invariant loop-test.true)

pub overflow_add-to : goal.overflow_add-to
overflow_add-to c =
    let pre = c.requires in
    let loop = c.loop-k in
    let loop-test = c.loop-k-test in
    omega (arith, ghosts_room _ _ _ _ _ (member_long pre) pre.room loop.invariant loop-test.true)

pub loop-k-smaller : goal.loop-k-smaller
loop-k-smaller c = omega (arith, member_behind _ _ _ c.next_member-k-in-loop-k.ensures)

pub loop-k-preserved : goal.loop-k-preserved
loop-k-preserved c =
    let pre = c.requires in
    let loop = c.loop-k in
    let loop-test = c.loop-k-test in
    let tree-at = c.tree_at in
    let copy40 = c.copy40 in
    ghosts_next _ _ _ _ _ (member_long pre) pre.room loop.invariant loop-test.true (member_copied _ _ _ _ tree-at.ensures copy40.ensures) c.next_member-k-in-loop-k.ensures

pub returns : goal.returns
returns c =
    let pre = c.requires in
    let loop = c.loop-k in
    ghosts_end _ _ _ _ _ (member_long pre) pre.room loop.invariant c.loop-k-test.false
