use native.Mathlib.Omega.{arith}
use Rattle.restart.proofs.Ranges.{range_fits_lem, same_read}
use Rattle.restart.proofs.check.same_trees.Goals as goal

pub first_tree-requires : goal.first_tree-requires
first_tree-requires c = omega (arith, (range_fits_lem _ _ (λ i. (c.type_inv.table i).fits) c.requires.0).long)

pub first_tree-requires-2 : goal.first_tree-requires-2
first_tree-requires-2 c =
    let pre = c.requires in
    omega (arith, (range_fits_lem _ _ (λ i. (c.type_inv.other i).fits) pre.1).long)

pub end_tree-requires : goal.end_tree-requires
end_tree-requires c =
    let pre = c.requires in
    (range_fits_lem _ _ (λ i. (c.type_inv.table i).fits) pre.0).long

pub end_tree-requires-2 : goal.end_tree-requires-2
end_tree-requires-2 c =
    let pre = c.requires in
    (range_fits_lem _ _ (λ i. (c.type_inv.other i).fits) pre.1).long

pub returns : goal.returns
returns c =
    let pre = c.requires in
    let trees = c.trees in
    let trees2 = c.trees-2 in
    let first_tree_call = c.first_tree in
    let first-tree2 = c.first_tree-2 in
    let end-tree = c.end_tree in
    same_read (range_fits_lem _ _ (λ i. (c.type_inv.table i).fits) pre.0) (range_fits_lem _ _ (λ i. (c.type_inv.other i).fits) pre.1) trees.ensures trees2.ensures first_tree_call.ensures first-tree2.ensures end-tree.ensures c.end_tree-2.ensures
