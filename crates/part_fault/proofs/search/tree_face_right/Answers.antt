use Rattle.part_check.proofs.Checking.{face_tree, face_ghost, face_none}
use Rattle.part_fault.proofs.search.tree_face_right.Goals as goal

pub returns-then-m-count : goal.returns-then-m-count
returns-then-m-count c =
    let tree-at = c.tree_at-at in
    let neighbour_of_call = c.neighbour_of-m in
    let if1 = c.if-m-count in
    let tree-at2 = c.tree_at in
    face_tree _ _ tree-at.ensures _ _ _ _ neighbour_of_call.ensures if1.true tree-at2.ensures c.link_ok.ensures

pub returns-then-m-count-2 : goal.returns-then-m-count-2
returns-then-m-count-2 c =
    let tree-at = c.tree_at-at in
    let neighbour_of_call = c.neighbour_of-m in
    let if1 = c.if-m-count in
    let if2 = c.if-m-count-2 in
    let number_of_call = c.number_of in
    let ghost_at = c.ghost_at in
    face_ghost _ _ tree-at.ensures _ _ _ _ neighbour_of_call.ensures if1.false if2.true number_of_call.ensures ghost_at.ensures c.link_ok-then-m-count-2.ensures

pub returns : goal.returns
returns c =
    let tree-at = c.tree_at-at in
    let neighbour_of_call = c.neighbour_of-m in
    let if1 = c.if-m-count in
    face_none _ _ tree-at.ensures _ _ _ _ neighbour_of_call.ensures if1.false c.if-m-count-2.false
