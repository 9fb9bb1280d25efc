use Rattle.std.proofs.lemmas.Result.{err_from_is_err_and}
use Rattle.offsets.proofs.Checked.{table_known, range_fails}
use Rattle.offsets.proofs.Tables.{range_fits_lem}
use Prim.Native.Nat.{◌≤◌}
use Rattle.offsets.specs.Limits.{max_trees}
use Rattle.offsets.specs.Table.{tree_count, first_tree, end_tree}
use Rattle.offsets.specs.Calls.{table_range, range_answer, range_refusal}
use Rattle.encoding.specs.Refusal.{first_failed}
use native.Mathlib.Omega.{arith}
use borrow.Author.Tests.{le-ltb, lt-ltb}
use Rattle.offsets.proofs.table_range.Goals as goal

-- the rank's range fits 32 bits
range : (c : goal.After-end_tree-end)
    → (first_tree c.args.table.now c.args.rank ≤ end_tree c.args.table.now c.args.rank) × (end_tree c.args.table.now c.args.rank ≤ max_trees)
range c =
    let k = table_known c.args.table.now c.in_ok-check_table.ensures in
    range_fits_lem c.args.table.now _ _ (λ i. (c.shared_slice_known-1.given i).fits) k.0 k.1 c.ranks.ensures.0 c.if-ranks-p.false

pub returns-in_err-check_table : goal.returns-in_err-check_table
returns-in_err-check_table c =
    let p = err_from_is_err_and c.from_residual.result c.from_residual.ensures.1 in
    rw (p.1, p.2) (range_fails c.args.table.now c.args.rank _ c.in_err-check_table.ensures)

pub ranks-requires : goal.ranks-requires
ranks-requires c = (table_known c.args.table.now c.in_ok-check_table.ensures).0

pub returns-then-ranks-p : goal.returns-then-ranks-p
unfolding table_range range_refusal range_answer first_failed
returns-then-ranks-p c =
    let k = table_known c.args.table.now c.in_ok-check_table.ensures in
    simp (k.0, k.1, ← c.ranks.ensures.0, le-ltb c.args.rank c.ranks.result c.if-ranks-p.true)

pub overflow_cast-result : goal.overflow_cast-result
overflow_cast-result c = omega (arith, range c, c.first_tree-first.ensures, c.end_tree-end.ensures)

pub overflow_sub-result : goal.overflow_sub-result
overflow_sub-result c = omega (arith, range c, c.first_tree-first.ensures, c.end_tree-end.ensures)

pub overflow_cast-result-2 : goal.overflow_cast-result-2
overflow_cast-result-2 c = omega (arith, range c, c.first_tree-first.ensures, c.end_tree-end.ensures)

pub returns : goal.returns
unfolding table_range range_refusal range_answer first_failed tree_count
returns c =
    let k = table_known c.args.table.now c.in_ok-check_table.ensures in
    simp (k.0, k.1, ← c.ranks.ensures.0, lt-ltb c.args.rank c.ranks.result c.if-ranks-p.false, c.first_tree-first.ensures, c.end_tree-end.ensures)
