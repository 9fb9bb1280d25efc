use Rattle.mesh.proofs.PlainTrees.{own_shape, alike_face, alike_tree}
use Rattle.encoding.proofs.Below.{clash, all_more, all_to}
use Rattle.encoding.specs.Below.{all_below}
use native.Mathlib.Omega.{arith}
use mathlib.Core.Path.{refl}
use Rattle.faults.proofs.tree.plain_tree.Goals as goal

pub alike-requires : goal.alike-requires
alike-requires c = (omega (arith, c.tree_at-at.ensures), c.requires.5)

pub returns-then-not-alike : goal.returns-then-not-alike
returns-then-not-alike c = λ t. clash t refl

pub loop-next-init : goal.loop-next-init
unfolding all_below
loop-next-init c = refl

pub neighbour_of-n-requires : goal.neighbour_of-n-requires
neighbour_of-n-requires c = (omega (arith, c.tree_at-at.ensures), omega (arith, c.requires.5))

pub returns-then-trees-n : goal.returns-then-trees-n
returns-then-trees-n c = λ t. clash t refl

pub link_alike-requires : goal.link_alike-requires
link_alike-requires c =
    let tree-at = c.tree_at-at in
    let pre = c.requires in
    let alike = c.alike in
    let if1 = c.if-not-alike in (
      omega (arith, tree-at.ensures),
      omega (arith, pre.5),
      omega (arith, c.tree_at.ensures),
      own_shape _ 0 _ tree-at.ensures _ _ alike.ensures (if1.false) pre.3,
    )

pub code_of-requires : goal.code_of-requires
code_of-requires c =
    let tree-at = c.tree_at-at in
    let pre = c.requires in
    (omega (arith, tree-at.ensures), omega (arith, pre.5))

pub returns-then-not-link_alike-n : goal.returns-then-not-link_alike-n
returns-then-not-link_alike-n c = λ t. clash t refl

pub loop-next-preserved : goal.loop-next-preserved
loop-next-preserved c =
    let loop = c.loop-next in
    let tree-at = c.tree_at-at in
    let alike = c.alike in
    let if1 = c.if-not-alike in
    let pre = c.requires in
    let neighbour_of_call = c.neighbour_of-n in
    let if2 = c.if-trees-n in
    let tree-at2 = c.tree_at in
    let code_of_call = c.code_of in
    let link-alike = c.link_alike in
    all_more _ _ loop.invariant
    (alike_face _ _ _ tree-at.ensures _ _ alike.ensures (if1.false) pre.3 _ neighbour_of_call.ensures if2.false tree-at2.ensures code_of_call.ensures link-alike.ensures (c.if-not-link_alike-n.false))

pub returns : goal.returns
returns c =
    let tree-at = c.tree_at-at in
    let alike = c.alike in
    let if1 = c.if-not-alike in
    let pre = c.requires in
    let loop = c.loop-next in
    λ t. alike_tree _ _ _ tree-at.ensures _ _ alike.ensures (if1.false) pre.3 pre.2 pre.4 (all_to _ _ _ loop.auto.next-end (omega arith) loop.invariant)
