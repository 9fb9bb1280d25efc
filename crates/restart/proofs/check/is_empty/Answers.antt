use native.Mathlib.Omega.{arith}
use Rattle.restart.proofs.Ranges.{range_fits_lem, empty_read}
use Rattle.restart.proofs.check.is_empty.Goals as goal

pub first_tree-requires : goal.first_tree-requires
first_tree-requires c = omega (arith, (range_fits_lem _ _ (λ i. (c.type_inv.table i).fits) c.requires).long)

pub end_tree-requires : goal.end_tree-requires
end_tree-requires c = (range_fits_lem _ _ (λ i. (c.type_inv.table i).fits) c.requires).long

pub returns : goal.returns
returns c =
    let pre = c.requires in
    let first_tree_call = c.first_tree in
    empty_read (range_fits_lem _ _ (λ i. (c.type_inv.table i).fits) pre) first_tree_call.ensures c.end_tree.ensures
