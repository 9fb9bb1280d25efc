use Rattle.area.proofs.Ranges.{range_fits_lem, count_read}
use native.Mathlib.Omega.{arith}
use Rattle.area.proofs.header.tree_count.Goals as goal

pub first_tree-first-requires : goal.first_tree-first-requires
first_tree-first-requires c = omega (arith, range_fits_lem _ _ (λ i. (c.shared_slice_known-1.given i).fits) c.requires)

pub end_tree-end-requires : goal.end_tree-end-requires
end_tree-end-requires c = omega (arith, range_fits_lem _ _ (λ i. (c.shared_slice_known-1.given i).fits) c.requires)

pub overflow_sub-result : goal.overflow_sub-result
overflow_sub-result c =
    let shared-slice-known = c.shared_slice_known-1 in
    let pre = c.requires in
    let first_tree_call = c.first_tree-first in
    omega (arith, range_fits_lem _ _ (λ i. (shared-slice-known.given i).fits) pre, first_tree_call.ensures, c.end_tree-end.ensures)

pub overflow_cast-result : goal.overflow_cast-result
overflow_cast-result c =
    let shared-slice-known = c.shared_slice_known-1 in
    let pre = c.requires in
    let first_tree_call = c.first_tree-first in
    omega (arith, range_fits_lem _ _ (λ i. (shared-slice-known.given i).fits) pre, first_tree_call.ensures, c.end_tree-end.ensures)

pub returns : goal.returns
returns c =
    let shared-slice-known = c.shared_slice_known-1 in
    let pre = c.requires in
    let first_tree_call = c.first_tree-first in
    count_read _ _ (range_fits_lem _ _ (λ i. (shared-slice-known.given i).fits) pre) first_tree_call.ensures c.end_tree-end.ensures
