use mathlib.Core.Path.{sym}
use Rattle.mesh.proofs.Checking.{face_outside, face_read}
use Rattle.faults.proofs.tree.face_right.Goals as goal

pub returns-then-trees-n : goal.returns-then-trees-n
returns-then-trees-n c = sym (face_outside _ _ _ _ c.tree_at-at.ensures _ _ c.neighbour_of-n.ensures c.if-trees-n.true)

pub returns : goal.returns
returns c =
    let tree-at = c.tree_at-at in
    let neighbour_of_call = c.neighbour_of-n in
    let if1 = c.if-trees-n in
    let tree-at2 = c.tree_at in
    face_read _ _ _ _ tree-at.ensures _ _ _ neighbour_of_call.ensures if1.false tree-at2.ensures c.link_ok.ensures
