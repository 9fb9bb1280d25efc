use Rattle.mesh.proofs.PlainTrees.{up_face, up_counts, up_stays, down_stays, down_face, tree_shape, tree_space, plain_seen}
use Rattle.mesh.proofs.Checking.{leads_down_lem, faces_none, faces_up_lem, faces_down_lem, faces_all, bit_most}
use native.Mathlib.Omega.{arith}
use Rattle.mesh.proofs.plain.plain_tree.Goals as goal
use Rattle.mesh.proofs.plain.plain_tree.Goals.{then-k-n+else-trees-n, else-k-n+else-not-link_alike-n}

pub loop-face-init : goal.loop-face-init
loop-face-init c = faces_none _ _ _

pub overflow_add-ups : goal.overflow_add-ups
overflow_add-ups c = omega (arith, c.loop-face.invariant.upward.1)

pub link_alike-requires : goal.link_alike-requires
link_alike-requires c =
    let tree-at = c.tree_at-at in
    let alike = c.alike in
    let if1 = c.if-not-alike in
    (omega (arith, tree-at.ensures), omega arith, omega (arith, c.tree_at.ensures), tree_shape _ _ tree-at.ensures alike.ensures (if1.false))

pub overflow_add-downs : goal.overflow_add-downs
overflow_add-downs c = omega (arith, c.loop-face.invariant.downward.1, c.from-downs.ensures, bit_most)

pub loop-face-preserved : goal.loop-face-preserved
loop-face-preserved c =
    let here = c.tree_at-at.ensures in
    let read = c.neighbour_of-n.ensures in
    let before = c.loop-face.invariant in
    let alike = c.if-not-alike.false in
    elim c.if-k-n.branch [
      | then-k-n+else-trees-n w ↦
          rw (w.ups-is, w.downs-is)
          (faces_up_lem _ _ _ _ before (up_face _ _ here _ read w.if-k-n.true _ _ w.if-trees-n.false) (up_counts _ _ here _ read w.if-k-n.true) (up_stays _ _ here _ read w.if-k-n.true))
      | else-k-n+else-not-link_alike-n w ↦
          let space = tree_space _ _ here c.alike.ensures alike in
          rw (w.ups-is, w.downs-is)
          (faces_down_lem _ _ _ _ before (down_face _ _ here _ read w.if-k-n.false _ space w.tree_at.ensures w.code_of.ensures w.link_alike.ensures w.if-not-link_alike-n.false)
          (down_stays _ _ here _ read w.if-k-n.false) w.from-downs.ensures (leads_down_lem _ _ here _ _ read))
    ]

pub returns : goal.returns
returns c =
    let tree-at = c.tree_at-at in
    let alike = c.alike in
    let if1 = c.if-not-alike in
    let loop = c.loop-face in
    plain_seen _ _ tree-at.ensures alike.ensures (if1.false) _ (faces_all _ _ _ _ loop.invariant _ c.loop-face.auto.face-end (omega arith) (omega arith))
