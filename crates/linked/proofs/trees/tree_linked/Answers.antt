use mathlib.Core.Path.{sym, ◌∙◌}
use native.Mathlib.Omega.{arith}
use Rattle.linked.proofs.Seeing.{seen_unnumbered, known_tree, seen_off, seen_unlisted, seen_linked}
use Rattle.linked.proofs.trees.tree_linked.Goals as goal

pub numbered-requires : goal.numbered-requires
numbered-requires c = (c.requires.0.laid, c.requires.1)

pub returns-then-not-numbered : goal.returns-then-not-numbered
returns-then-not-numbered c = seen_unnumbered _ _ _ c.numbered.ensures (c.if-not-numbered.true)

pub tree_at-at-requires : goal.tree_at-at-requires
tree_at-at-requires c = (c.requires.0.laid.room, c.requires.1)

pub alone-requires : goal.alone-requires
alone-requires c =
    let pre = c.requires in
    omega (arith, c.tree_at-at.ensures, pre.0.laid.trees, pre.1)

pub returns-then-not-alone : goal.returns-then-not-alone
returns-then-not-alone c =
    let tree-at = c.tree_at-at in
    let alone = c.alone in
    let if2 = c.if-not-alone in
    seen_off _ _ _ tree-at.ensures alone.ensures (if2.true)

pub shape_of-requires : goal.shape_of-requires
shape_of-requires c =
    let tree-at = c.tree_at-at in
    let pre = c.requires in
    omega (arith, tree-at.ensures, pre.0.laid.trees, pre.1)

pub sorted-links-requires : goal.sorted-links-requires
sorted-links-requires c =
    let pre = c.requires in
    let numbered = c.numbered in
    let if1 = c.if-not-numbered in
    (pre.0.laid, known_tree _ _ _ pre.1 numbered.ensures (if1.false), c.face_count-faces.ensures.1)

pub listed_ok-requires : goal.listed_ok-requires
listed_ok-requires c =
    let pre = c.requires in
    let numbered = c.numbered in
    let if1 = c.if-not-numbered in
    let face-count = c.face_count-faces in
    (pre.0, known_tree _ _ _ pre.1 numbered.ensures (if1.false), face-count.ensures.1, c.sorted-links.ensures.0)

pub returns-then-not-listed_ok : goal.returns-then-not-listed_ok
returns-then-not-listed_ok c =
    let tree-at = c.tree_at-at in
    let shape_of = c.shape_of in
    let face-count = c.face_count-faces in
    let listed_ok = c.listed_ok in
    let if3 = c.if-not-listed_ok in
    seen_unlisted _ _ _ tree-at.ensures shape_of.ensures face-count.ensures.0 (sym listed_ok.ensures ∙ if3.true)

pub returns : goal.returns
returns c =
    let tree-at = c.tree_at-at in
    let shape_of = c.shape_of in
    let face-count = c.face_count-faces in
    let numbered = c.numbered in
    let if1 = c.if-not-numbered in
    let alone = c.alone in
    let if2 = c.if-not-alone in
    let listed_ok = c.listed_ok in
    let sorted = c.sorted-links in
    seen_linked _ _ _ tree-at.ensures shape_of.ensures face-count.ensures.0 numbered.ensures (if1.false) alone.ensures (if2.false) (sym listed_ok.ensures ∙ c.if-not-listed_ok.false) face-count.ensures.1 sorted.ensures.1 sorted.ensures.2
