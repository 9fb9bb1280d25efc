use native.Mathlib.Omega.{arith}
use Rattle.linked.proofs.Seeing.{shape_here, alike_local, alike_global}
use Rattle.linked.proofs.plain.alike_ok.Goals as goal

pub link_alike-requires : goal.link_alike-requires
link_alike-requires c =
    let tree-at = c.tree_at-at in
    let pre = c.requires in
    let tree-at2 = c.tree_at-to in
    (omega (arith, tree-at.ensures, pre.0.trees, pre.1.below), pre.2, omega (arith, tree-at2.ensures, pre.0.trees, pre.3), shape_here _ _ _ tree-at.ensures pre.4)

pub returns-then-x : goal.returns-then-x
returns-then-x c =
    let tree-at = c.tree_at-at in
    let tree-at2 = c.tree_at-to in
    let if1 = c.if-x in
    λ t. alike_local _ _ _ tree-at.ensures _ _ tree-at2.ensures if1.true (c.link_alike.ensures t)

pub link_alike-requires-2 : goal.link_alike-requires-2
link_alike-requires-2 c =
    let tree-at = c.tree_at-at in
    let pre = c.requires in
    let tree-at2 = c.tree_at-to in
    (omega (arith, tree-at.ensures, pre.0.trees, pre.1.below), pre.2, omega (arith, tree-at2.ensures, pre.0.trees, pre.3), shape_here _ _ _ tree-at.ensures pre.4)

pub returns : goal.returns
returns c =
    let tree-at = c.tree_at-at in
    let tree-at2 = c.tree_at-to in
    let if1 = c.if-x in
    let pre = c.requires in
    let number_of_call = c.number_of in
    λ t. alike_global _ _ _ tree-at.ensures _ _ tree-at2.ensures if1.false pre.1 number_of_call.ensures (c.link_alike-2.ensures t)
