use native.Mathlib.Omega.{arith}
use Rattle.message_build.proofs.Trees.{place_is, trees_start, tree_from_lem, tree_room, trees_next, trees_end}
use Rattle.message_build.proofs.write.write_trees.Goals as goal

pub loop-k-init : goal.loop-k-init
loop-k-init c = trees_start _ _ _ _ _ _ _ _ c.requires

pub to_local-tree-requires : goal.to_local-tree-requires
to_local-tree-requires c = tree_from_lem _ _ _ _ _ _ _ _ c.requires c.loop-k.invariant c.loop-k-test.true

pub write_tree-requires : goal.write_tree-requires
write_tree-requires c =
    let pre = c.requires in
    let loop = c.loop-k in
    let loop-test = c.loop-k-test in
    let to_local = c.to_local-tree in
    let tree-at = c.tree_at in
    tree_room _ _ _ _ _ _ _ _ pre loop.invariant loop-test.true (place_is _ _ _ to_local.ensures tree-at.ensures)

pub overflow_add-to : goal.overflow_add-to
overflow_add-to c =
    let pre = c.requires in
    let loop = c.loop-k in
    let loop-test = c.loop-k-test in
    let to_local = c.to_local-tree in
    let tree-at = c.tree_at in
    omega (arith, (tree_room _ _ _ _ _ _ _ _ pre loop.invariant loop-test.true (place_is _ _ _ to_local.ensures tree-at.ensures)).target)

pub loop-k-preserved : goal.loop-k-preserved
loop-k-preserved c =
    let pre = c.requires in
    let loop = c.loop-k in
    let loop-test = c.loop-k-test in
    let to_local = c.to_local-tree in
    let tree-at = c.tree_at in
    let write-tree = c.write_tree in
    trees_next _ _ _ _ _ _ _ _ pre loop.invariant loop-test.true (place_is _ _ _ to_local.ensures tree-at.ensures) write-tree.ensures

pub shape_of-out : goal.shape_of-out
shape_of-out c = c.loop-k.invariant.same_length

pub returns : goal.returns
returns c = trees_end _ _ _ _ _ _ _ _ c.requires c.loop-k.invariant c.loop-k-test.false
