use mathlib.Core.Path.{sym, ◌∙◌}
use Rattle.mesh.proofs.Checking.{tree_not_alone, tree_unused, tree_seen_lem}
use Rattle.mesh.proofs.sound.tree_sound.Goals as goal

pub returns-then-not-alone : goal.returns-then-not-alone
returns-then-not-alone c =
    let tree-at = c.tree_at-at in
    let alone = c.alone in
    let if1 = c.if-not-alone in
    tree_not_alone _ _ _ _ tree-at.ensures (sym alone.ensures ∙ if1.true)

pub returns-then-not-unused_from : goal.returns-then-not-unused_from
returns-then-not-unused_from c =
    let tree-at = c.tree_at-at in
    let shape_of = c.shape_of in
    let face-count = c.face_count-faces in
    let unused_from_call = c.unused_from in
    let if2 = c.if-not-unused_from in
    tree_unused _ _ _ _ tree-at.ensures shape_of.ensures face-count.ensures.0 (sym unused_from_call.ensures ∙ if2.true)

pub returns : goal.returns
returns c =
    let tree-at = c.tree_at-at in
    let shape_of = c.shape_of in
    let face-count = c.face_count-faces in
    let alone = c.alone in
    let if1 = c.if-not-alone in
    let unused_from_call = c.unused_from in
    let if2 = c.if-not-unused_from in
    tree_seen_lem _ _ _ _ tree-at.ensures shape_of.ensures face-count.ensures.0 c.faces_sound.result (sym alone.ensures ∙ if1.false) (sym unused_from_call.ensures ∙ if2.false) c.faces_sound.ensures
