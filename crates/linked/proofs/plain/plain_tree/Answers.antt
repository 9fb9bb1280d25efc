use Prim.Native.Nat.{◌<◌}
use mathlib.Core.Path.{refl}
use native.Mathlib.Omega.{arith}
use Rattle.mesh.proofs.Checking.{faces_none, faces_up_lem, faces_down_lem, faces_all, bit_most}
use Rattle.linked.proofs.Seeing.{plain_known, plain_space, plain_shape, plain_seen, face_up, up_up, up_down, face_down, down_up, down_down, place_read}
use Rattle.linked.proofs.plain.plain_tree.Goals as goal
use Rattle.linked.proofs.plain.plain_tree.Goals.{then-i-j+else-x-j, else-i-j+else-not-plain_face}

pub loop-face-init : goal.loop-face-init
loop-face-init c = faces_none _ _ _

pub overflow_add-ups : goal.overflow_add-ups
overflow_add-ups c = omega (arith, c.loop-face.invariant.upward.1)

pub plain_face-requires : goal.plain_face-requires
plain_face-requires c =
    let pre = c.requires in
    let tree-at = c.tree_at-at in
    let numbered = c.numbered in
    let shape_of = c.shape_of in
    let zeros-ok = c.zeros_ok in
    let region_ok_call = c.region_ok in
    let if1 = c.if-not-numbered-x in
    let neighbour_of_call = c.neighbour_of in
    let tree_of = c.tree_of-place in (
      pre.0,
      plain_known _ _ _ tree-at.ensures numbered.ensures refl shape_of.ensures zeros-ok.ensures region_ok_call.ensures (if1.false) pre.1,
      omega arith,
      c.if-i-j.false,
      place_read _ _ _ tree-at.ensures _ neighbour_of_call.ensures tree_of.ensures,
      plain_shape _ _ _ tree-at.ensures numbered.ensures refl shape_of.ensures zeros-ok.ensures region_ok_call.ensures (if1.false),
      plain_space _ _ _ tree-at.ensures numbered.ensures refl shape_of.ensures zeros-ok.ensures region_ok_call.ensures (if1.false),
    )

pub overflow_add-downs : goal.overflow_add-downs
overflow_add-downs c = omega (arith, c.loop-face.invariant.downward.1, c.from-downs.ensures, bit_most)

pub loop-face-preserved : goal.loop-face-preserved
loop-face-preserved c =
    let here = c.tree_at-at.ensures in
    let read = c.neighbour_of.ensures in
    let place = c.tree_of-place.ensures in
    let before = c.loop-face.invariant in
    let below = c.requires.1 in
    elim c.if-i-j.branch [
      | then-i-j+else-x-j w ↦
          let less = w.if-x-j.false in
          let up = w.if-i-j.true in
          rw (w.ups-is, w.downs-is)
          (faces_up_lem _ _ _ _ before (face_up _ _ _ here _ read place less below up) (up_up _ _ _ here _ read place less below up) (up_down _ _ _ here _ read place less below up))
      | else-i-j+else-not-plain_face w ↦
          let down = w.if-i-j.false in
          let less : c.tree_of-place.result.0 < c.args.x.count = omega (arith, below, down) in
          rw (w.ups-is, w.downs-is)
          (faces_down_lem _ _ _ _ before (face_down _ _ _ here _ read place less below down (w.plain_face.ensures w.if-not-plain_face.false)) (down_up _ _ _ here _ read place less below down) w.from-downs.ensures (down_down _ _ _ here _ read place less below down))
    ]

pub returns : goal.returns
returns c =
    let tree-at = c.tree_at-at in
    let numbered = c.numbered in
    let shape_of = c.shape_of in
    let zeros-ok = c.zeros_ok in
    let region_ok_call = c.region_ok in
    let if1 = c.if-not-numbered-x in
    let loop = c.loop-face in
    plain_seen _ _ _ tree-at.ensures numbered.ensures refl shape_of.ensures zeros-ok.ensures region_ok_call.ensures (if1.false) (faces_all _ _ _ _ loop.invariant _ c.loop-face.auto.face-end (omega arith) (omega arith))
