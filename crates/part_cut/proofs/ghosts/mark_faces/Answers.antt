use Rattle.part_cut.proofs.Marking.{faces_start, faces_in_lem, faces_out, faces_end}
use Prim.Native.Nat.{◌*◌, ◌<◌}
use lib.ListN.{length}
use native.Mathlib.Omega.{arith}
use Rattle.part_cut.proofs.ghosts.mark_faces.Goals.{then-not-within, else-not-within}
use Rattle.part_cut.proofs.ghosts.mark_faces.Goals as goal

pub loop-face-init : goal.loop-face-init
loop-face-init c = faces_start _ _ _ _

pub within-requires : goal.within-requires
within-requires c = c.requires.range

pub add_member-requires : goal.add_member-requires
add_member-requires c =
    let pre = c.requires in
    let loop-test = c.loop-face-test in
    let neighbour_of_call = c.neighbour_of-k in
    let loop = c.loop-face in
    omega (arith, pre.low _ loop-test.true, neighbour_of_call.ensures, loop.invariant.same_length)

pub loop-face-preserved : goal.loop-face-preserved
loop-face-preserved c =
    let added = c.loop-face.invariant in
    let low : c.neighbour_of-k.result < 64 * length c.loop-face.marks = omega (arith, c.requires.low _ c.loop-face-test.true, c.neighbour_of-k.ensures, added.same_length) in
    elim c.if-not-within.branch [
      | then-not-within w ↦ rw w.marks-is (faces_out _ _ _ _ added c.neighbour_of-k.ensures c.within.ensures w.if-not-within.true low w.add_member.ensures)
      | else-not-within w ↦ rw w.marks-is (faces_in_lem _ _ _ _ added c.neighbour_of-k.ensures c.within.ensures w.if-not-within.false)
    ]

pub returns : goal.returns
returns c = faces_end _ _ _ c.loop-face.invariant c.loop-face.auto.face-end (omega arith)
