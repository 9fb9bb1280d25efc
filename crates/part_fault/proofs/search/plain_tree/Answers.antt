use Rattle.part_check.proofs.PlainTrees.{plain_here, plain_stored}
use Rattle.encoding.proofs.Below.{clash, all_more, all_to}
use Rattle.encoding.specs.Below.{all_below}
use native.Mathlib.Omega.{arith}
use mathlib.Core.Path.{refl}
use Rattle.part_fault.proofs.search.plain_tree.Goals as goal

pub alike-requires : goal.alike-requires
alike-requires c = omega (arith, c.requires.0, c.requires.2, c.tree_at.ensures)

pub returns-then-not-alike : goal.returns-then-not-alike
returns-then-not-alike c = λ t. clash t refl

pub loop-face-init : goal.loop-face-init
unfolding all_below
loop-face-init c = refl

pub plain_face-requires : goal.plain_face-requires
plain_face-requires c =
    let pre = c.requires in
    let tree-at = c.tree_at in
    let alike = c.alike in
    let if1 = c.if-not-alike in
    (record { long = pre.0; low = pre.1; below = pre.2; plain = plain_here _ _ tree-at.ensures _ alike.ensures (if1.false) }, omega arith)

pub returns-then-not-plain_face : goal.returns-then-not-plain_face
returns-then-not-plain_face c = λ t. clash t refl

pub loop-face-preserved : goal.loop-face-preserved
loop-face-preserved c = all_more _ _ c.loop-face.invariant (c.plain_face.ensures (c.if-not-plain_face.false))

pub returns : goal.returns
returns c =
    let tree-at = c.tree_at in
    let alike = c.alike in
    let if1 = c.if-not-alike in
    let loop = c.loop-face in
    λ t. plain_stored _ _ _ (plain_here _ _ tree-at.ensures _ alike.ensures (if1.false)) _ _ _ (all_to _ _ _ loop.auto.face-end (omega arith) loop.invariant)
