use Rattle.part_neighbour.proofs.Across.{across_unused, across_boundary, across_local, across_ghost}
use Rattle.part_neighbour.proofs.link.link_of.Goals as goal

pub returns-then-face_count-face : goal.returns-then-face_count-face
returns-then-face_count-face c =
    let tree-at = c.tree_at-at in
    let shape_of = c.shape_of in
    let face-count = c.face_count in
    let if1 = c.if-face_count-face in
    rw c.across_to.ensures (across_unused _ _ _ tree-at.ensures shape_of.ensures face-count.ensures.0 if1.true)

pub returns-then-to_itself : goal.returns-then-to_itself
returns-then-to_itself c =
    let tree-at = c.tree_at-at in
    let shape_of = c.shape_of in
    let face-count = c.face_count in
    let if1 = c.if-face_count-face in
    let to-itself = c.to_itself in
    let if2 = c.if-to_itself in
    rw c.across_to-then-to_itself.ensures (across_boundary _ _ _ tree-at.ensures shape_of.ensures face-count.ensures.0 if1.false to-itself.ensures if2.true)

pub returns-then-j-tree_count : goal.returns-then-j-tree_count
returns-then-j-tree_count c =
    let across-to3 = c.across_to-there in
    let tree-at = c.tree_at-at in
    let shape_of = c.shape_of in
    let face-count = c.face_count in
    let if1 = c.if-face_count-face in
    let to-itself = c.to_itself in
    let if2 = c.if-to_itself in
    let neighbour_of_call = c.neighbour_of-j in
    let face-of = c.face_of in
    let orientation_of_call = c.orientation_of in
    let tree_count_call = c.tree_count in
    rw across-to3.ensures (across_local _ _ _ tree-at.ensures shape_of.ensures face-count.ensures.0 if1.false to-itself.ensures if2.false neighbour_of_call.ensures face-of.ensures.0 orientation_of_call.ensures tree_count_call.ensures c.if-j-tree_count.true)

pub returns : goal.returns
returns c =
    let across-to3 = c.across_to-there in
    let tree-at = c.tree_at-at in
    let shape_of = c.shape_of in
    let face-count = c.face_count in
    let if1 = c.if-face_count-face in
    let to-itself = c.to_itself in
    let if2 = c.if-to_itself in
    let neighbour_of_call = c.neighbour_of-j in
    let face-of = c.face_of in
    let orientation_of_call = c.orientation_of in
    let tree_count_call = c.tree_count in
    rw across-to3.ensures (across_ghost _ _ _ tree-at.ensures shape_of.ensures face-count.ensures.0 if1.false to-itself.ensures if2.false neighbour_of_call.ensures face-of.ensures.0 orientation_of_call.ensures tree_count_call.ensures c.if-j-tree_count.false)
